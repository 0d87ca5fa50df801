-- The lines of a text about rounds are read to a good end exactly where they spell a good text.
use Rattle.std.proofs.Common.{◌≡◌, inl, inr, ℕ, suc, ◌+◌, ◌<◌, ◌≤◌, ◌^◌, Bool, true, false, eqb, List, [], ◌∷◌, ◌++◌, map, flat_map, length, take, drop, refl, sym, ap, subst, ◌∙◌, arith, append_assoc, Some, None, Option, Ok, Err}
use Rattle.std.specs.Prelude.{if◌then◌else◌, nat_lt, nat_le, ◌&&◌, codes, decimal}
use Rattle.std.specs.List.{All}
use Rattle.std.specs.Str.{bytes_eq}
use Rattle.std.proofs.lemmas.Bool.{lt-ltb, ltb-true, le-leb, leb-true, eqb-true, and_parts, and_from}
use Rattle.std.proofs.lemmas.Option.{none-some}
use Rattle.std.proofs.lemmas.List.{take-append-drop}
use Rattle.std.proofs.lemmas.List.Elements.{All-weaker}
use Rattle.std.proofs.lemmas.Slice.Eq.{bytes_eq-Decides}
use Rattle.aig_semantics.specs.declared.limits.TheConstants.{MAX_VARIABLE}
use Rattle.aig_semantics.specs.declared.traces.Stimulus.{Stimulus}
use Rattle.aig_semantics.specs.Circuits.{Circuit}
use Rattle.proof_semantics.specs.declared.literals.Lit.{Lit}
use Rattle.fair_semantics.specs.declared.entries.Kind.{Kind}
use Rattle.fair_semantics.specs.declared.entries.Kind.TheVariants.{Reach, Wall}
use Rattle.fair_semantics.specs.declared.entries.Use.{Use}
use Rattle.certificate_lines.specs.declared.words.Version.TheVariants.{One, Two}
use Rattle.certificate_lines.specs.declared.words.WordLine.{WordLine}
use Rattle.certificate_lines.specs.declared.words.WordLine.TheVariants as lines
use Rattle.certificate_lines.specs.Fields.{number_in}
use Rattle.certificate_lines.specs.Words.{word_line_text, word_line_of}
use Rattle.certificate_lines.proofs.FieldLaws.{number_given, number_back}
use Rattle.certificate_lines.proofs.WordLaws.{word_given_line, word_back}
use Rattle.certificate.specs.declared.limits.TheConstants.{MAX_ENTRIES}
use Rattle.certificate.specs.declared.state.Refuted.TheVariants.{States}
use Rattle.certificate.specs.declared.ends.Accepted.{Accepted}
use Rattle.certificate.specs.declared.ends.Accepted.TheVariants.{Holds}
use Rattle.certificate.specs.declared.ends.AnswerFault.TheVariants as faults
use Rattle.certificate.specs.Lines.{Numbered, bare}
use Rattle.certificate_texts.specs.declared.certificates.Written.{Written}
use Rattle.certificate_texts.specs.declared.certificates.Certificate.{Certificate}
use Rattle.certificate_texts.specs.Certificates.{entry_lines, refutation_lines, lines_of_certificate}
use Rattle.certificate.specs.Refuted.{may_open}
use Rattle.certificate_texts.specs.Writing.{property_line}
use Rattle.certificate.specs.Answers.{Spells}
use Rattle.certificate.specs.Reading.{Start, Latches, Dotted, Certified, Ended, property_in}
use Rattle.certificate.specs.Reading as answers
use Rattle.certificate.specs.Ends.{IsGoodAtEnd as IsGoodAnswer}
use Rattle.certificate.proofs.Completing.{end_line, rest_lines, FromStart}
use Rattle.certificate.proofs.CompletingAll.{completed_reads, read_completes}
use Rattle.certificate.proofs.CompletingProofs.{heads}
use Rattle.certificate.proofs.CompletingTexts.{named, name_of}
use Rattle.certificate.proofs.GoodRead.{all_proved, behind_version, few_all}
use Rattle.certificate.proofs.Kept.{latches_are_read}
use Rattle.round_monitor.specs.Ends.{IsMonitorable}
use Rattle.round_monitor.specs.Monitor.{monitor_circuit}
use Rattle.round_monitor.specs.Numbers.{sizes_of, greatest}
use Rattle.round_answers.specs.declared.limits.TheConstants.{MAX_ROUNDS}
use Rattle.round_answers.specs.declared.ends.Judged.{Judged}
use Rattle.round_answers.specs.declared.ends.Judged.TheVariants.{Answer, Rounds}
use Rattle.round_answers.specs.Texts.{MayBeAsked, rounds_line}
use Rattle.round_answers.specs.Answers.{last_latch, NeverFull, IsFewer, IsReached}
use Rattle.round_answers.specs.Reading.{State, First, Named, Chosen, Running, Listing, Stop, Fault, TooLarge, Stepped, asked_in, first_step, named_step, first_body, version_step, chosen_step, within, step, and_then, read_lines}
use Rattle.round_answers.specs.Ends.{IsGoodAtEnd}
use Rattle.round_answers.proofs.RunLines.{run_spelled}

-- ---- a run and a certificate are read as those of answers

then_within : (inside : answers.State → State) (r : answers.Stepped) (f : State → Stepped) (g : answers.State → answers.Stepped)
    → ((u : answers.State) → f (inside u) ≡ within inside (g u)) → and_then (within inside r) f ≡ within inside (answers.and_then r g)
then_within inside (Ok u) f g h = h u
then_within inside (Err fault) f g h = refl

run_within : (c : Circuit) (k n : ℕ) (s : answers.State) (lines : List Numbered) → read_lines c (Running k n s) lines ≡ within (Running k n) (answers.read_lines c s lines)
run_within c k n s [] = refl
run_within c k n s (line ∷ lines) =
    then_within (Running k n) (answers.step c s line.0 line.1) (λ t. read_lines c t lines) (λ u. answers.read_lines c u lines) (λ u. run_within c k n u lines)

list_within : (c : Circuit) (k n : ℕ) (s : answers.State) (lines : List Numbered)
    → read_lines c (Listing k n s) lines ≡ within (Listing k n) (answers.read_lines (monitor_circuit c n k) s lines)
list_within c k n s [] = refl
list_within c k n s (line ∷ lines) =
    then_within (Listing k n) (answers.step (monitor_circuit c n k) s line.0 line.1) (λ t. read_lines c t lines) (λ u. answers.read_lines (monitor_circuit c n k) u lines)
    (λ u. list_within c k n u lines)

-- ---- what the lines behind those of the rounds and the property say

abbrev SaysRun : Circuit → ℕ → ℕ → List (List ℕ) → Type 0
SaysRun c k n left = (stimulus : Stimulus) × (others : List (List ℕ)) × (left ≡ codes "run" ∷ others) × Spells stimulus others × IsReached c k n stimulus

abbrev SaysFewer : Circuit → ℕ → ℕ → List (List ℕ) → Type 0
SaysFewer c k n left = (certificate : Certificate) × (left ≡ lines_of_certificate certificate) × IsFewer c k n certificate

abbrev pub Behind : Circuit → ℕ → ℕ → List (List ℕ) → Judged → Type 0
Behind c k n left (Answer accepted) = ⊥
Behind c k n left (Rounds property count true) = (property ≡ n) × (count ≡ k) × SaysRun c k n left
Behind c k n left (Rounds property count false) = (property ≡ n) × (count ≡ k) × SaysFewer c k n left

abbrev pub EndsWell : Circuit → Judged → Stepped → Type 0
EndsWell c judged r = (t : State) × (r ≡ Ok t) × IsGoodAtEnd c t judged

no_end : (c : Circuit) (judged : Judged) (stop : Stop) → EndsWell c judged (Err stop) → ⊥
no_end c judged stop (t, e, good) = absurd (cc)

ok_same : (s t : State) → ◌≡◌ {A = Stepped} (Ok s) (Ok t) → s ≡ t
ok_same s t e = cc

-- ---- a run

module _ (c : Circuit) (k n : ℕ) where
  run_end : (u : answers.State) (lines : List Numbered) (judged : Judged) → answers.read_lines c (Latches n) lines ≡ Ok u → IsGoodAtEnd c (Running k n u) judged
      → (line : List ℕ) → line ≡ codes "run" → Behind c k n (line ∷ bare lines) judged
  run_end (Dotted m s) lines (Rounds property count true) e good line is =
      let spelled = run_spelled c m s n lines e in
      (good.0, good.1, (s, bare lines, ap (λ l. l ∷ bare lines) is, spelled.1, good.2))
  run_end (Dotted m s) lines (Rounds property count false) e good line is = absurd good
  run_end (Dotted m s) lines (Answer a) e good line is = absurd good
  run_end (Ended b) lines judged e good line is = absurd good
  run_end answers.Status lines judged e good line is = absurd good
  run_end (answers.Property claim) lines judged e good line is = absurd good
  run_end (Latches m) lines judged e good line is = absurd good
  run_end (answers.Rows m s) lines judged e good line is = absurd good
  run_end (answers.Versioned m) lines judged e good line is = absurd good
  run_end (Certified b w) lines judged e good line is = absurd good

  run_by : (r : answers.Stepped) (lines : List Numbered) (judged : Judged) → answers.read_lines c (Latches n) lines ≡ r → EndsWell c judged (within (Running k n) r)
      → (line : List ℕ) → line ≡ codes "run" → Behind c k n (line ∷ bare lines) judged
  run_by (Err fault) lines judged e h line is = absurd (no_end c judged (Fault fault) h)
  run_by (Ok u) lines judged e (t, same, good) line is =
      run_end u lines judged e (subst (λ x. IsGoodAtEnd c x judged) (sym (ok_same (Running k n u) t same)) good) line is

  run_back : (line : List ℕ) (lines : List Numbered) (judged : Judged) → line ≡ codes "run" → EndsWell c judged (read_lines c (Running k n (Latches n)) lines)
      → Behind c k n (line ∷ bare lines) judged
  run_back line lines judged is h =
      run_by (answers.read_lines c (Latches n) lines) lines judged refl (subst (EndsWell c judged) (run_within c k n (Latches n) lines) h) line is

  run_on : (lines : List Numbered) (stimulus : Stimulus) → Spells stimulus (bare lines) → IsReached c k n stimulus
      → EndsWell c (Rounds n k true) (read_lines c (Running k n (Latches n)) lines)
  run_on lines stimulus (rows, spelled, values) reached =
      let read = latches_are_read c n stimulus lines rows spelled values in
      (Running k n (Dotted n stimulus), run_within c k n (Latches n) lines ∙ ap (within (Running k n)) read, (refl, refl, reached))

  -- ---- a certificate of the monitor

  abbrev t : Circuit
  t = monitor_circuit c n k

  abbrev l : Lit
  l = last_latch t

  reach_of : (kind : Kind) → may_open (States l) kind ≡ true → kind ≡ Reach
  reach_of Reach h = refl
  reach_of Wall h = absurd (cc)

  may_of : (kind : Kind) → kind ≡ Reach → may_open (States l) kind ≡ true
  may_of Reach h = refl
  may_of Wall h = absurd (cc)

  never : (left : List (List ℕ)) (a : Accepted) (s : FromStart t (first_body t n) left a)
      → NeverFull t (record { version = Two; entries = s.more; uses = s.uses; proof = s.proof })
  never left a s = record {
    version = refl;
    reach = All-weaker (λ (e : Written). may_open (States l) e.kind ≡ true) (λ (e : Written). e.kind ≡ Reach) (λ e h. reach_of e.kind h) s.more s.kinds;
    form = s.form;
    sizes = s.sizes;
    signs = s.signs;
    few = few_all s.more MAX_ENTRIES s.few;
    entries = s.all;
    proved = s.proved;
    refuted = s.refuted;
  }

  list_spelled : (line : List ℕ) (left : List (List ℕ)) (a : Accepted) → line ≡ word_line_text (lines.Version Two) → FromStart t (first_body t n) left a → SaysFewer c k n (line ∷ left)
  list_spelled line left a is s =
      let certificate : Certificate = record { version = Two; entries = s.more; uses = s.uses; proof = s.proof } in
      (certificate, (λ j. is j ∷ s.spelled j) ∙ sym (behind_version s.more s.uses s.proof Two), never left a s)

  list_end : (u : answers.State) (rest : List Numbered) (judged : Judged) → answers.read_lines t (Certified (first_body t n) Start) rest ≡ Ok u → IsGoodAtEnd c (Listing k n u) judged
      → (line : List ℕ) → line ≡ word_line_text (lines.Version Two) → Behind c k n (line ∷ bare rest) judged
  list_end (Ended b) rest (Rounds property count false) e good line is =
      let a : Accepted = Holds b.property (length b.entries) in
      (good.0, good.1, list_spelled line (bare rest) a is (read_completes t a rest (Certified (first_body t n) Start) (Ended b, e, (refl, refl))))
  list_end (Ended b) rest (Rounds property count true) e good line is = absurd good
  list_end (Ended b) rest (Answer a) e good line is = absurd good
  list_end (Dotted m s) rest judged e good line is = absurd good
  list_end answers.Status rest judged e good line is = absurd good
  list_end (answers.Property claim) rest judged e good line is = absurd good
  list_end (Latches m) rest judged e good line is = absurd good
  list_end (answers.Rows m s) rest judged e good line is = absurd good
  list_end (answers.Versioned m) rest judged e good line is = absurd good
  list_end (Certified b w) rest judged e good line is = absurd good

  list_by : (r : answers.Stepped) (rest : List Numbered) (judged : Judged) → answers.read_lines t (Certified (first_body t n) Start) rest ≡ r → EndsWell c judged (within (Listing k n) r)
      → (line : List ℕ) → line ≡ word_line_text (lines.Version Two) → Behind c k n (line ∷ bare rest) judged
  list_by (Err fault) rest judged e h line is = absurd (no_end c judged (Fault fault) h)
  list_by (Ok u) rest judged e (s, same, good) line is =
      list_end u rest judged e (subst (λ x. IsGoodAtEnd c x judged) (sym (ok_same (Listing k n u) s same)) good) line is

  list_back : (line : List ℕ) (rest : List Numbered) (judged : Judged) → line ≡ word_line_text (lines.Version Two)
      → EndsWell c judged (read_lines c (Listing k n (Certified (first_body t n) Start)) rest) → Behind c k n (line ∷ bare rest) judged
  list_back line rest judged is h =
      list_by (answers.read_lines t (Certified (first_body t n) Start) rest) rest judged refl (subst (EndsWell c judged) (list_within c k n (Certified (first_body t n) Start) rest) h) line is

  list_ended : (u : answers.State) (m e : ℕ) → IsGoodAnswer t u (Holds m e) → IsGoodAtEnd c (Listing k n u) (Rounds n k false)
  list_ended (Ended b) m e good = (refl, refl)
  list_ended (Dotted j s) m e good = absurd good
  list_ended answers.Status m e good = absurd good
  list_ended (answers.Property claim) m e good = absurd good
  list_ended (Latches j) m e good = absurd good
  list_ended (answers.Rows j s) m e good = absurd good
  list_ended (answers.Versioned j) m e good = absurd good
  list_ended (Certified b w) m e good = absurd good

  list_on : (rest : List Numbered) (certificate : Certificate) → bare rest ≡ rest_lines certificate.entries certificate.uses certificate.proof → IsFewer c k n certificate
      → EndsWell c (Rounds n k false) (read_lines c (Listing k n (Certified (first_body t n) Start)) rest)
  list_on rest certificate spelled h =
      let es : List Written = certificate.entries in
      let a : Accepted = Holds n (length h.entries) in
      let from : FromStart t (first_body t n) (rest_lines es certificate.uses certificate.proof) a = record {
        more = es;
        uses = certificate.uses;
        proof = certificate.proof;
        spelled = refl;
        kinds = All-weaker (λ (e : Written). e.kind ≡ Reach) (λ (e : Written). may_open (States l) e.kind ≡ true) (λ e h. may_of e.kind h) es h.reach;
        form = h.form;
        sizes = h.sizes;
        signs = h.signs;
        few = λ some. (let m = h.few in omega (arith, m));
        all = h.entries;
        proved = h.proved;
        refuted = h.refuted;
        end = (refl, refl);
      }
      in
      let well = completed_reads t a rest (Certified (first_body t n) Start) (subst (λ ls. FromStart t (first_body t n) ls a) (sym spelled) from) in
      (Listing k n well.0, list_within c k n (Certified (first_body t n) Start) rest ∙ ap (within (Listing k n)) well.1, list_ended well.0 n (length h.entries) well.2)

  -- ---- what follows the line of the property

  version_not_run : bytes_eq (word_line_text (lines.Version Two)) (codes "run") ≡ false
  version_not_run = refl

  version_from : (line : Numbered) (rest : List Numbered) (judged : Judged) (o : Option WordLine) → word_line_of line.1 ≡ o
      → EndsWell c judged (and_then (version_step c k n line.0 o) (λ s. read_lines c s rest)) → Behind c k n (bare (line ∷ rest)) judged
  version_from line rest judged (Some (lines.Version Two)) is h = list_back line.1 rest judged (word_given_line line.1 (lines.Version Two) is).spelled h
  version_from line rest judged (Some (lines.Version One)) is h = absurd (no_end c judged (Fault (faults.Shape line.0)) h)
  version_from line rest judged (Some (lines.Opening o)) is h = absurd (no_end c judged (Fault (faults.Shape line.0)) h)
  version_from line rest judged (Some (lines.Proof m)) is h = absurd (no_end c judged (Fault (faults.Shape line.0)) h)
  version_from line rest judged (Some (lines.Refutation r)) is h = absurd (no_end c judged (Fault (faults.Shape line.0)) h)
  version_from line rest judged (Some lines.End) is h = absurd (no_end c judged (Fault (faults.Shape line.0)) h)
  version_from line rest judged None is h = absurd (no_end c judged (Fault (faults.Shape line.0)) h)

  chosen_by : (line : Numbered) (rest : List Numbered) (judged : Judged) (test : Bool) → bytes_eq line.1 (codes "run") ≡ test
      → EndsWell c judged (and_then (if test then Ok (Running k n (Latches n)) else version_step c k n line.0 (word_line_of line.1)) (λ s. read_lines c s rest))
      → Behind c k n (bare (line ∷ rest)) judged
  chosen_by line rest judged true is h = run_back line.1 rest judged ((bytes_eq-Decides line.1 (codes "run")).0 is) h
  chosen_by line rest judged false is h = version_from line rest judged (word_line_of line.1) refl h

  not_chosen : (judged : Judged) → IsGoodAtEnd c (Chosen k n) judged → ⊥
  not_chosen judged good = good

  pub chosen_back : (lines : List Numbered) (judged : Judged) → EndsWell c judged (read_lines c (Chosen k n) lines) → Behind c k n (bare lines) judged
  chosen_back [] judged (s, same, good) = absurd (not_chosen judged (subst (λ x. IsGoodAtEnd c x judged) (sym (ok_same (Chosen k n) s same)) good))
  chosen_back (line ∷ rest) judged h = chosen_by line rest judged (bytes_eq line.1 (codes "run")) refl h

  chosen_run_on : (lines : List Numbered) → SaysRun c k n (bare lines) → EndsWell c (Rounds n k true) (read_lines c (Chosen k n) lines)
  chosen_run_on [] (stimulus, others, spelled, spells, reached) = absurd (cc)
  chosen_run_on (line ∷ rest) (stimulus, others, spelled, spells, reached) =
      let parts = heads line.1 (codes "run") (bare rest) others spelled in
      subst (λ test. EndsWell c (Rounds n k true) (and_then (if test then Ok (Running k n (Latches n)) else version_step c k n line.0 (word_line_of line.1)) (λ s. read_lines c s rest)))
      (sym ((bytes_eq-Decides line.1 (codes "run")).1 parts.0))
      (run_on rest stimulus (subst (Spells stimulus) (sym parts.1) spells) reached)

  chosen_list_by : (line : Numbered) (rest : List Numbered) (certificate : Certificate) → line.1 ≡ word_line_text (lines.Version Two)
      → bare rest ≡ rest_lines certificate.entries certificate.uses certificate.proof → IsFewer c k n certificate
      → EndsWell c (Rounds n k false) (read_lines c (Chosen k n) (line ∷ rest))
  chosen_list_by line rest certificate is spelled h =
      let read : word_line_of line.1 ≡ Some (lines.Version Two) = word_back line.1 (lines.Version Two) (record { numbers = tt; spelled = is }) in
      let other : bytes_eq line.1 (codes "run") ≡ false = ap (λ bytes. bytes_eq bytes (codes "run")) is ∙ version_not_run in
      subst (λ test. EndsWell c (Rounds n k false) (and_then (if test then Ok (Running k n (Latches n)) else version_step c k n line.0 (word_line_of line.1)) (λ s. read_lines c s rest)))
      (sym other)
      (subst (λ o. EndsWell c (Rounds n k false) (and_then (version_step c k n line.0 o) (λ s. read_lines c s rest))) (sym read)
      (list_on rest certificate spelled h))

  chosen_list_on : (lines : List Numbered) → SaysFewer c k n (bare lines) → EndsWell c (Rounds n k false) (read_lines c (Chosen k n) lines)
  chosen_list_on [] (certificate, spelled, h) = absurd (cc)
  chosen_list_on (line ∷ rest) (certificate, spelled, h) =
      let whole : line.1 ∷ bare rest ≡ word_line_text (lines.Version certificate.version) ∷ rest_lines certificate.entries certificate.uses certificate.proof =
      spelled ∙ behind_version certificate.entries certificate.uses certificate.proof certificate.version in
      let parts = heads line.1 (word_line_text (lines.Version certificate.version)) (bare rest) (rest_lines certificate.entries certificate.uses certificate.proof) whole in
      chosen_list_by line rest certificate (parts.0 ∙ ap (λ version. word_line_text (lines.Version version)) h.version) parts.1 h

  pub chosen_on : (lines : List Numbered) (judged : Judged) → Behind c k n (bare lines) judged → EndsWell c judged (read_lines c (Chosen k n) lines)
  chosen_on lines (Answer accepted) h = absurd h
  chosen_on lines (Rounds property count true) (a, b, h) =
      subst (λ m. EndsWell c (Rounds m count true) (read_lines c (Chosen k n) lines)) (sym a)
      (subst (λ m. EndsWell c (Rounds n m true) (read_lines c (Chosen k n) lines)) (sym b) (chosen_run_on lines h))
  chosen_on lines (Rounds property count false) (a, b, h) =
      subst (λ m. EndsWell c (Rounds m count false) (read_lines c (Chosen k n) lines)) (sym a)
      (subst (λ m. EndsWell c (Rounds n m false) (read_lines c (Chosen k n) lines)) (sym b) (chosen_list_on lines h))

-- ---- the line of the property

-- the line of property n, of which there is a monitor, and what follows it
abbrev pub FromNamed : Circuit → ℕ → List (List ℕ) → Judged → Type 0
FromNamed c k left judged =
    (n : ℕ) × (others : List (List ℕ)) × (n < 2 ^ 63) × IsMonitorable c n k × (left ≡ property_line n ∷ others) × Behind c k n others judged

module _ (c : Circuit) (k : ℕ) where
  not_named : (judged : Judged) → IsGoodAtEnd c (Named k) judged → ⊥
  not_named judged good = good

  sized : (line : Numbered) (rest : List Numbered) (judged : Judged) (n : ℕ) → property_in line.1 ≡ Some n → n < length c.justice → (test : Bool)
      → nat_le (greatest (sizes_of c n k)) MAX_VARIABLE ≡ test
      → EndsWell c judged (and_then (if test then Ok (Chosen k n) else Err (TooLarge (greatest (sizes_of c n k)))) (λ s. read_lines c s rest))
      → FromNamed c k (bare (line ∷ rest)) judged
  sized line rest judged n is there true fits h =
      let name = name_of line.1 n is in
      (n, bare rest, name.0, record { property = there; size = leb-true (greatest (sizes_of c n k)) MAX_VARIABLE fits }, ap (λ l. l ∷ bare rest) name.1, chosen_back c k n rest judged h)
  sized line rest judged n is there false fits h = absurd (no_end c judged (TooLarge (greatest (sizes_of c n k))) h)

  there_by : (line : Numbered) (rest : List Numbered) (judged : Judged) (n : ℕ) → property_in line.1 ≡ Some n → (test : Bool) → nat_lt n (length c.justice) ≡ test
      → EndsWell c judged (and_then (if test then (if nat_le (greatest (sizes_of c n k)) MAX_VARIABLE then Ok (Chosen k n) else Err (TooLarge (greatest (sizes_of c n k))))
      else Err (Fault (faults.NoProperty n))) (λ s. read_lines c s rest))
      → FromNamed c k (bare (line ∷ rest)) judged
  there_by line rest judged n is true there h =
      sized line rest judged n is (ltb-true n (length c.justice) there) (nat_le (greatest (sizes_of c n k)) MAX_VARIABLE) refl h
  there_by line rest judged n is false there h = absurd (no_end c judged (Fault (faults.NoProperty n)) h)

  named_from : (line : Numbered) (rest : List Numbered) (judged : Judged) (o : Option ℕ) → property_in line.1 ≡ o
      → EndsWell c judged (and_then (named_step c k line.0 o) (λ s. read_lines c s rest)) → FromNamed c k (bare (line ∷ rest)) judged
  named_from line rest judged (Some n) is h = there_by line rest judged n is (nat_lt n (length c.justice)) refl h
  named_from line rest judged None is h = absurd (no_end c judged (Fault (faults.Shape line.0)) h)

  named_back : (lines : List Numbered) (judged : Judged) → EndsWell c judged (read_lines c (Named k) lines) → FromNamed c k (bare lines) judged
  named_back [] judged (s, same, good) = absurd (not_named judged (subst (λ x. IsGoodAtEnd c x judged) (sym (ok_same (Named k) s same)) good))
  named_back (line ∷ rest) judged h = named_from line rest judged (property_in line.1) refl h

  named_on : (lines : List Numbered) (judged : Judged) → FromNamed c k (bare lines) judged → EndsWell c judged (read_lines c (Named k) lines)
  named_on [] judged (n, others, small, able, spelled, behind) = absurd (cc)
  named_on (line ∷ rest) judged (n, others, small, able, spelled, behind) =
      let parts = heads line.1 (property_line n) (bare rest) others spelled in
      let big : ℕ = greatest (sizes_of c n k) in
      subst (λ o. EndsWell c judged (and_then (named_step c k line.0 o) (λ s. read_lines c s rest))) (sym (named line.1 n small parts.0))
      (subst (λ test. EndsWell c judged (and_then (if test then (if nat_le big MAX_VARIABLE then Ok (Chosen k n) else Err (TooLarge big)) else Err (Fault (faults.NoProperty n))) (λ s. read_lines c s rest)))
      (sym (lt-ltb n (length c.justice) able.property))
      (subst (λ test. EndsWell c judged (and_then (if test then Ok (Chosen k n) else Err (TooLarge big)) (λ s. read_lines c s rest))) (sym (le-leb big MAX_VARIABLE able.size))
      (chosen_on c k n rest judged (subst (λ ls. Behind c k n ls judged) (sym parts.1) behind))))

-- ---- the first line

asked_back : (k : ℕ) → k < 2 ^ 63 → asked_in (rounds_line k) ≡ Some k
asked_back k small = number_back k small

asked_by : (line : List ℕ) (k : ℕ) (test : Bool) → bytes_eq (take 7 line) (codes "rounds ") ≡ test → (if test then number_in (drop 7 line) else None) ≡ Some k
    → line ≡ rounds_line k
asked_by line k true is e =
    let front : take 7 line ≡ codes "rounds " = (bytes_eq-Decides (take 7 line) (codes "rounds ")).0 is in
    let digits = number_given (drop 7 line) k e in
    sym (take-append-drop 7 line) ∙ ap (λ xs. xs ++ drop 7 line) front ∙ ap (λ xs. codes "rounds " ++ xs) digits.1
asked_by line k false is e = absurd (none-some k e)

asked_given : (line : List ℕ) (k : ℕ) → asked_in line ≡ Some k → line ≡ rounds_line k
asked_given line k e = asked_by line k (bytes_eq (take 7 line) (codes "rounds ")) refl e

-- the line of so many rounds, and what follows it
abbrev pub FromFirst : Circuit → List (List ℕ) → Judged → Type 0
FromFirst c left judged = (k : ℕ) × (others : List (List ℕ)) × MayBeAsked k × (left ≡ rounds_line k ∷ others) × FromNamed c k others judged

module _ (c : Circuit) where
  not_first : (judged : Judged) → IsGoodAtEnd c First judged → ⊥
  not_first judged good = good

  asked_test : (line : Numbered) (rest : List Numbered) (judged : Judged) (k : ℕ) → asked_in line.1 ≡ Some k → (test : Bool) → (nat_le 1 k && nat_le k MAX_ROUNDS) ≡ test
      → EndsWell c judged (and_then (if test then Ok (Named k) else Err (Fault (faults.Shape line.0))) (λ s. read_lines c s rest)) → FromFirst c (bare (line ∷ rest)) judged
  asked_test line rest judged k is true test h =
      let both = and_parts (nat_le 1 k) (nat_le k MAX_ROUNDS) test in (
        k,
        bare rest,
        record { some = leb-true 1 k both.0; few = leb-true k MAX_ROUNDS both.1 },
        ap (λ l. l ∷ bare rest) (asked_given line.1 k is),
        named_back c k rest judged h,
      )
  asked_test line rest judged k is false test h = absurd (no_end c judged (Fault (faults.Shape line.0)) h)

  first_from : (line : Numbered) (rest : List Numbered) (judged : Judged) (o : Option ℕ) → asked_in line.1 ≡ o
      → EndsWell c judged (and_then (first_step line.0 o) (λ s. read_lines c s rest)) → FromFirst c (bare (line ∷ rest)) judged
  first_from line rest judged (Some k) is h = asked_test line rest judged k is (nat_le 1 k && nat_le k MAX_ROUNDS) refl h
  first_from line rest judged None is h = absurd (no_end c judged (Fault (faults.Shape line.0)) h)

  -- lines that are read to a good end say so,
  pub first_back : (lines : List Numbered) (judged : Judged) → EndsWell c judged (read_lines c First lines) → FromFirst c (bare lines) judged
  first_back [] judged (s, same, good) = absurd (not_first judged (subst (λ x. IsGoodAtEnd c x judged) (sym (ok_same First s same)) good))
  first_back (line ∷ rest) judged h = first_from line rest judged (asked_in line.1) refl h

  -- and lines that say so are read to a good end
  pub first_on : (lines : List Numbered) (judged : Judged) → FromFirst c (bare lines) judged → EndsWell c judged (read_lines c First lines)
  first_on [] judged (k, others, may, spelled, from) = absurd (cc)
  first_on (line ∷ rest) judged (k, others, may, spelled, from) =
      let parts = heads line.1 (rounds_line k) (bare rest) others spelled in
      let small : k < 2 ^ 63 = (let few = may.few in omega (arith, few)) in
      let read : asked_in line.1 ≡ Some k = ap asked_in parts.0 ∙ asked_back k small in
      let test : (nat_le 1 k && nat_le k MAX_ROUNDS) ≡ true = and_from (nat_le 1 k) (nat_le k MAX_ROUNDS) (le-leb 1 k may.some) (le-leb k MAX_ROUNDS may.few) in
      subst (λ o. EndsWell c judged (and_then (first_step line.0 o) (λ s. read_lines c s rest))) (sym read)
      (subst (λ t. EndsWell c judged (and_then (if t then Ok (Named k) else Err (Fault (faults.Shape line.0))) (λ s. read_lines c s rest))) (sym test)
      (named_on c k rest judged (subst (λ ls. FromNamed c k ls judged) (sym parts.1) from)))
