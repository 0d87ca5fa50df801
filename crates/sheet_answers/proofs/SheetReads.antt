-- All lines of a sheet, from its first on.
use Rattle.std.proofs.Common.{◌≡◌, ◌⊎◌, ℕ, suc, ◌+◌, ◌<◌, ◌≤◌, ◌^◌, inl, inr, Bool, true, false, List, [], ◌∷◌, ◌++◌, map, length, flat_map, drop, take, refl, sym, ap, subst, ◌∙◌, arith, length-append, Some, None, Option, Ok, Err, All}
use Rattle.std.specs.Prelude.{if◌then◌else◌, ◌==◌, nat_lt, codes}
use Rattle.std.specs.Str.{bytes_eq}
use Rattle.std.proofs.lemmas.Bool.{lt-ltb, ltb-true, eqb-true, eq-eqb}
use Rattle.std.proofs.lemmas.Option.{none-some}
use Rattle.std.proofs.lemmas.List.{take-append-drop}
use Rattle.std.proofs.lemmas.List.Elements.{All-cons, All-nil, All-head, All-tail}
use Rattle.std.proofs.lemmas.Slice.Eq.{bytes_eq-Decides}
use Rattle.aig_semantics.specs.declared.traces.Stimulus.{Stimulus}
use Rattle.aig_semantics.specs.Circuits.{Circuit}
use Rattle.aig_semantics.specs.Stimuli.{StandsFor}
use Rattle.proof_semantics.specs.Proofs.{judge}
use Rattle.fair_semantics.specs.declared.entries.Kind.{Kind}
use Rattle.fair_semantics.specs.declared.entries.Kind.TheVariants.{Reach, Wall}
use Rattle.fair_semantics.specs.Entries.{Entry}
use Rattle.stimulus.specs.declared.ends.ReplayFault.{ReplayFault}
use Rattle.stimulus.specs.Faults.{HasReplayFault}
use Rattle.stimulus.proofs.FaultLemmas.{fault-no_lasso}
use Rattle.certificate_lines.specs.declared.words.Opening.{Opening}
use Rattle.certificate_lines.specs.declared.words.Version.TheVariants.{One, Two}
use Rattle.certificate_lines.specs.declared.words.WordLine.{WordLine}
use Rattle.certificate_lines.specs.declared.words.WordLine.TheVariants as lines
use Rattle.certificate_lines.specs.Fields.{IsNumber, number_in}
use Rattle.certificate_lines.specs.Words.{word_line_text, word_line_of, IsWordLine}
use Rattle.certificate_lines.specs.Uses.{uses_text, written, uses_of}
use Rattle.certificate_lines.specs.Clauses.{clause_text, clause_of as literals_of}
use Rattle.certificate_lines.proofs.WordLaws.{word_given_line, word_back}
use Rattle.certificate_lines.proofs.FieldLaws.{number_given, number_back}
use Rattle.certificate.specs.declared.limits.TheConstants.{MAX_ENTRIES}
use Rattle.certificate.specs.declared.ends.AnswerFault.TheVariants as faults
use Rattle.certificate.specs.Lines.{Numbered, bare}
use Rattle.certificate_texts.specs.declared.certificates.Written.{Written}
use Rattle.certificate_texts.specs.Certificates.{proof_lines, opening_line, entry_lines, CanBeWritten, refutation_lines}
use Rattle.certificate.specs.Certificates.{entry_with, AreProvedBehind}
use Rattle.certificate.specs.Reading.{Body, Start, EntryUses, EntryClause, EntryProof, EntryLine, RefutationUses, RefutationLine, Last, Latches, Rows, Dotted, Certified, with_entry, begin_entry}
use Rattle.certificate.specs.Reading as answers
use Rattle.certificate.proofs.CompletingAll.{no_front, no_clause, no_proof, no_proof_line}
use Rattle.certificate.proofs.CompletingProofs.{heads}
use Rattle.certificate.proofs.CompletingStarts.{regrouped, few_more}
use Rattle.certificate.proofs.CompletingEntries.{clauses_over, as_many, passes_each, proved_by_each}
use Rattle.sheet_answers.specs.declared.blocks.Block.TheVariants.{Lasso, Holds, Open}
use Rattle.sheet_answers.specs.declared.found.Accepted.{Accepted}
use Rattle.sheet_answers.specs.Sheets.{Block, Counts, all_line, lasso_line, holds_line, open_line, version_line, end_line, refuting, AreBlocks, none, total}
use Rattle.sheet_answers.specs.Reading.{State, First, Versioned, Listing, Between, Refuting, Proving, Showing, Done, Plain, Replays, Stepped, after_answer, count_in, first_step, no_entries, version_step, entry_step, listing_step, replayed, shown, step, and_then, read_lines}
use Rattle.sheet_answers.specs.Ends.{IsReplayed, AreReplays}
use Rattle.sheet_answers.specs.Seen.{IsGoodAtEnd}
use Rattle.sheet_answers.proofs.Entering.{ProofsTail, ClausesTail, FromUses, After}
use Rattle.sheet_answers.proofs.EnteringProofs.{entry_line_on, entry_line_back, entry_proof_on, entry_proof_back}
use Rattle.sheet_answers.proofs.EnteringEntries.{clause_on, clause_back_on, entry_uses_on, entry_uses_back}
use Rattle.sheet_answers.proofs.ShowingLines.{FromRows, FromLatches, Rowing, ShowsAfter, row_on, row_back, latches_on, latches_back}
use Rattle.sheet_answers.proofs.WellStates.{IsEntry, IsShown, Within, entry_uses_well, entry_clause_well, entry_proof_well, entry_line_well, showing_well, IsRow, IsWell, WellOk, step_well}
use Rattle.sheet_answers.proofs.SheetLines.{FromBlocks, FromListing, BehindDot, Lists, Proves, Completes, Behind, between_on, between_back, refute_on, refute_back, prove_on, prove_back}

-- ---- a stimulus

module _ (c : Circuit) (a : Accepted) (replays : Replays) (are : AreReplays c replays) where
  abbrev shown_step : Counts → List Entry → answers.Stepped → Stepped
  shown_step t entries r = after_answer (shown replays t entries) Plain r

  dot_by : (t : Counts) (entries : List Entry) (m : ℕ) (s : Stimulus) (left : List (List ℕ)) (o : Option ReplayFault) → IsReplayed c m s o → m ≡ total t → BehindDot c a t entries s left
      → Behind c a (replayed t entries m o) left
  dot_by t entries m s left None is same h = h.1
  dot_by t entries m s left (Some fault) is same ((positions, from, stands), others) =
      absurd (fault-no_lasso c (total t) s fault positions from (subst (λ n. HasReplayFault c n s fault) same is) stands.has)

  shown_on : (t : Counts) (entries : List Entry) (r : answers.Stepped) (left : List (List ℕ)) → ShowsAfter (total t) r left (BehindDot c a t entries)
      → Behind c a (shown_step t entries r) left
  shown_on t entries (Ok (Latches m)) left h = h
  shown_on t entries (Ok (Rows m s)) left h = h
  shown_on t entries (Ok (Dotted m s)) left (same, h) = dot_by t entries m s left (replays m s) (are m s) same h
  shown_on t entries (Ok (Certified b wanted)) left h = absurd h
  shown_on t entries (Ok answers.Status) left h = absurd h
  shown_on t entries (Ok (answers.Property claim)) left h = absurd h
  shown_on t entries (Ok (answers.Versioned m)) left h = absurd h
  shown_on t entries (Ok (answers.Ended b)) left h = absurd h
  shown_on t entries (Err fault) left h = absurd h

  dot_from : (t : Counts) (entries : List Entry) (m : ℕ) (s : Stimulus) (left : List (List ℕ)) (o : Option ReplayFault) → IsReplayed c m s o → m ≡ total t
      → Behind c a (replayed t entries m o) left → BehindDot c a t entries s left
  dot_from t entries m s left None (positions, from, stands) same h = ((positions, from, subst (λ n. StandsFor c n s positions from) same stands), h)
  dot_from t entries m s left (Some fault) is same h = absurd h

  shown_from : (t : Counts) (entries : List Entry) (r : answers.Stepped) (left : List (List ℕ)) → Within (IsShown (total t)) r → Behind c a (shown_step t entries r) left
      → ShowsAfter (total t) r left (BehindDot c a t entries)
  shown_from t entries (Ok (Latches m)) left well h = h
  shown_from t entries (Ok (Rows m s)) left well h = h
  shown_from t entries (Ok (Dotted m s)) left well h = (well, dot_from t entries m s left (replays m s) (are m s) well h)
  shown_from t entries (Ok (Certified b wanted)) left well h = absurd well
  shown_from t entries (Ok answers.Status) left well h = absurd well
  shown_from t entries (Ok (answers.Property claim)) left well h = absurd well
  shown_from t entries (Ok (answers.Versioned m)) left well h = absurd well
  shown_from t entries (Ok (answers.Ended b)) left well h = absurd well
  shown_from t entries (Err fault) left well h = absurd h

  -- the lines of a stimulus for the property of this number
  row_shows : (n m : ℕ) (s : Stimulus) (number : ℕ) (line : List ℕ) (left : List (List ℕ)) (K : Stimulus → List (List ℕ) → Type 0) → m ≡ n → FromRows s (line ∷ left) K
      → ShowsAfter n (answers.step c (Rows m s) number line) left K
  row_shows n m s number line left K same h = subst (λ k. ShowsAfter n (answers.step c (Rows k s) number line) left K) (sym same) (row_on c n K s number line left h)

  latches_show : (n m number : ℕ) (line : List ℕ) (left : List (List ℕ)) (K : Stimulus → List (List ℕ) → Type 0) → m ≡ n → FromLatches (line ∷ left) K
      → ShowsAfter n (answers.step c (Latches m) number line) left K
  latches_show n m number line left K same h = subst (λ k. ShowsAfter n (answers.step c (Latches k) number line) left K) (sym same) (latches_on c n K number line left h)

  show_on : (t : Counts) (entries : List Entry) (s : answers.State) (number : ℕ) (line : List ℕ) (left : List (List ℕ)) → Rowing (total t) s (line ∷ left) (BehindDot c a t entries)
      → Behind c a (shown_step t entries (answers.step c s number line)) left
  show_on t entries (Latches m) number line left (same, h) =
      shown_on t entries (answers.step c (Latches m) number line) left (latches_show (total t) m number line left (BehindDot c a t entries) same h)
  show_on t entries (Rows m s) number line left (same, h) =
      shown_on t entries (answers.step c (Rows m s) number line) left (row_shows (total t) m s number line left (BehindDot c a t entries) same h)
  show_on t entries (Dotted m s) number line left h = absurd h
  show_on t entries (Certified b wanted) number line left h = absurd h
  show_on t entries answers.Status number line left h = absurd h
  show_on t entries (answers.Property claim) number line left h = absurd h
  show_on t entries (answers.Versioned m) number line left h = absurd h
  show_on t entries (answers.Ended b) number line left h = absurd h

  row_shown : (n m : ℕ) (s : Stimulus) (number : ℕ) (line : List ℕ) (left : List (List ℕ)) (K : Stimulus → List (List ℕ) → Type 0) → m ≡ n
      → ShowsAfter n (answers.step c (Rows m s) number line) left K → FromRows s (line ∷ left) K
  row_shown n m s number line left K same h = row_back c n K s number line left (subst (λ k. ShowsAfter n (answers.step c (Rows k s) number line) left K) same h)

  latches_shown : (n m number : ℕ) (line : List ℕ) (left : List (List ℕ)) (K : Stimulus → List (List ℕ) → Type 0) → m ≡ n
      → ShowsAfter n (answers.step c (Latches m) number line) left K → FromLatches (line ∷ left) K
  latches_shown n m number line left K same h = latches_back c n K number line left (subst (λ k. ShowsAfter n (answers.step c (Latches k) number line) left K) same h)

  show_back : (t : Counts) (entries : List Entry) (s : answers.State) (number : ℕ) (line : List ℕ) (left : List (List ℕ)) → IsRow (total t) s
      → Behind c a (shown_step t entries (answers.step c s number line)) left → Rowing (total t) s (line ∷ left) (BehindDot c a t entries)
  show_back t entries (Latches m) number line left same h = (
    same,
    latches_shown (total t) m number line left (BehindDot c a t entries) same
        (shown_from t entries (answers.step c (Latches m) number line) left (showing_well c (total t) (Latches m) number line same) h),
  )
  show_back t entries (Rows m s) number line left same h = (
    same,
    row_shown (total t) m s number line left (BehindDot c a t entries) same
        (shown_from t entries (answers.step c (Rows m s) number line) left (showing_well c (total t) (Rows m s) number line same) h),
  )
  show_back t entries (Dotted m s) number line left well h = absurd well
  show_back t entries (Certified b wanted) number line left well h = absurd well
  show_back t entries answers.Status number line left well h = absurd well
  show_back t entries (answers.Property claim) number line left well h = absurd well
  show_back t entries (answers.Versioned m) number line left well h = absurd well
  show_back t entries (answers.Ended b) number line left well h = absurd well

-- ---- entries

abbrev first_byte : List ℕ → ℕ
first_byte [] = 0
first_byte (byte ∷ line) = byte

abbrev kind_byte : Kind → ℕ
kind_byte Reach = 114
kind_byte Wall = 119

opening_byte : (kind : Kind) (clauses uses : ℕ) → first_byte (word_line_text (lines.Opening (record { kind = kind; clauses = clauses; uses = uses }))) ≡ kind_byte kind
opening_byte Reach clauses uses = refl
opening_byte Wall clauses uses = refl

kind_apart : (kind : Kind) → (kind_byte kind ≡ 101) ⊎ ((kind_byte kind ≡ 104) ⊎ ((kind_byte kind ≡ 108) ⊎ (kind_byte kind ≡ 111))) → ⊥
kind_apart Reach (inl e) = omega (arith, e)
kind_apart Reach (inr (inl e)) = omega (arith, e)
kind_apart Reach (inr (inr (inl e))) = omega (arith, e)
kind_apart Reach (inr (inr (inr e))) = omega (arith, e)
kind_apart Wall (inl e) = omega (arith, e)
kind_apart Wall (inr (inl e)) = omega (arith, e)
kind_apart Wall (inr (inr (inl e))) = omega (arith, e)
kind_apart Wall (inr (inr (inr e))) = omega (arith, e)

-- how the line begins that stands in front of the blocks from n on
block_byte : (n : ℕ) (blocks : List Block) (line : List ℕ) (left : List (List ℕ)) → AreBlocks n blocks (line ∷ left)
    → (first_byte line ≡ 101) ⊎ ((first_byte line ≡ 104) ⊎ ((first_byte line ≡ 108) ⊎ (first_byte line ≡ 111)))
block_byte n [] line left spelled = inl (ap first_byte (heads line end_line left [] spelled).0)
block_byte n (Lasso s ∷ blocks) line left (rows, others, is, spells, more) = inr (inr (inl (ap first_byte (heads line (lasso_line n) left (rows ++ others) is).0)))
block_byte n (Holds r ∷ blocks) line left (others, is, more) = inr (inl (ap first_byte (heads line (holds_line n) left (refutation_lines (refuting r) ++ others) is).0))
block_byte n (Open ∷ blocks) line left (others, is, more) = inr (inr (inr (ap first_byte (heads line (open_line n) left others is).0)))

-- so it opens no entry
no_opening : (n : ℕ) (blocks : List Block) (line : List ℕ) (left : List (List ℕ)) → AreBlocks n blocks (line ∷ left) → (o : Opening) → word_line_of line ≡ Some (lines.Opening o) → ⊥
no_opening n blocks line left spelled o is =
    let text : line ≡ word_line_text (lines.Opening o) = (word_given_line line (lines.Opening o) is).spelled in
    let byte : first_byte line ≡ kind_byte o.kind = ap first_byte text ∙ opening_byte o.kind o.clauses o.uses in
    kind_apart o.kind (subst (λ k. (k ≡ 101) ⊎ ((k ≡ 104) ⊎ ((k ≡ 108) ⊎ (k ≡ 111)))) byte (block_byte n blocks line left spelled))

module _ (c : Circuit) (a : Accepted) where
  blocks_by : (b : Body) (number : ℕ) (line : List ℕ) (left : List (List ℕ)) (o : Option WordLine) → word_line_of line ≡ o → (h : FromBlocks c a none b.entries (line ∷ left))
      → Behind c a (entry_step c b number line o) left
  blocks_by b number line left (Some (lines.Opening o)) is h = absurd (no_opening (total none) h.blocks line left h.spelled o is)
  blocks_by b number line left (Some (lines.Version v)) is h = between_on c a none b.entries number line left h
  blocks_by b number line left (Some (lines.Proof m)) is h = between_on c a none b.entries number line left h
  blocks_by b number line left (Some (lines.Refutation r)) is h = between_on c a none b.entries number line left h
  blocks_by b number line left (Some lines.End) is h = between_on c a none b.entries number line left h
  blocks_by b number line left None is h = between_on c a none b.entries number line left h

  start_opening : (b : Body) (number : ℕ) (line : List ℕ) (left : List (List ℕ)) (e : Written) (more : List Written) (rest : List (List ℕ)) (all : List Entry)
      → line ∷ left ≡ flat_map entry_lines (e ∷ more) ++ rest → All (CanBeWritten b.version) (e ∷ more) → length b.entries + suc (length more) ≤ MAX_ENTRIES
      → AreProvedBehind c b.entries (e ∷ more) all → FromBlocks c a none all rest
      → Behind c a (entry_step c b number line (word_line_of line)) left
  start_opening b number line left e more rest all spelled form few (clauses, of, is_proved, proved) blocks =
      let can : CanBeWritten b.version e = All-head (CanBeWritten b.version) e more form in
      let entry : Entry = entry_with e clauses in
      let tail : List (List ℕ) = map clause_text e.clauses ++ flat_map proof_lines e.proofs in
      let parts = heads line (word_line_text (opening_line e)) left (uses_text (map written e.uses) ∷ ((tail ++ flat_map entry_lines more) ++ rest)) spelled in
      let read : word_line_of line ≡ Some (opening_line e) = word_back line (opening_line e) (record { numbers = can.sizes; spelled = parts.0 }) in
      let room : nat_lt (length b.entries) MAX_ENTRIES ≡ true = lt-ltb (length b.entries) MAX_ENTRIES (omega (arith, few)) in
      let o : Opening = record { kind = e.kind; clauses = length e.clauses; uses = length e.uses } in
      let each = passes_each c b.entries entry e.proofs is_proved in
      let many : length e.clauses ≡ length clauses = as_many c e.clauses clauses of in
      let behind_one : List (List ℕ) = flat_map entry_lines more ++ rest in
      let others : FromListing c a (with_entry b entry) behind_one = record {
        more = more;
        rest = rest;
        spelled = refl;
        form = All-tail (CanBeWritten b.version) e more form;
        few = λ some. omega (arith, few, length-append b.entries (entry ∷ []));
        all = all;
        proved = proved;
        blocks = blocks;
      }
      in
      let proofs : ProofsTail c b entry 0 (flat_map proof_lines e.proofs ++ behind_one) (FromListing c a) = record {
        proofs = e.proofs;
        rest = behind_one;
        spelled = refl;
        sizes = can.proofs;
        count = let n : length e.proofs ≡ length clauses = is_proved.each.count in omega (arith, n);
        passes = each.2;
        others = others;
      }
      in
      let clause_tail : ClausesTail c b (begin_entry o e.uses) ((tail ++ flat_map entry_lines more) ++ rest) (FromListing c a) = record {
        literals = e.clauses;
        clauses = clauses;
        rest = flat_map proof_lines e.proofs ++ behind_one;
        spelled = regrouped (map clause_text e.clauses) (flat_map proof_lines e.proofs) (flat_map entry_lines more) rest;
        numbers = can.literals;
        are = of;
        based = each.1;
        count = omega (arith, many);
        proofs = proofs;
      }
      in
      let from : FromUses c b o left (FromListing c a) = record {
        uses = e.uses;
        rest = (tail ++ flat_map entry_lines more) ++ rest;
        spelled = parts.1;
        signs = can.uses;
        count = refl;
        fit = each.0;
        clauses = clause_tail;
      }
      in
      subst (λ r. Behind c a (entry_step c b number line r) left) (sym read)
      (subst (λ t. Behind c a (after_answer (λ s. Ok (Listing s)) Plain (if t then Ok (Certified b (EntryUses o)) else Err faults.TooLong)) left) (sym room) from)

  start_by : (b : Body) (number : ℕ) (line : List ℕ) (left : List (List ℕ)) (more : List Written) (rest : List (List ℕ)) (all : List Entry)
      → line ∷ left ≡ flat_map entry_lines more ++ rest → All (CanBeWritten b.version) more → (0 < length more → length b.entries + length more ≤ MAX_ENTRIES)
      → AreProvedBehind c b.entries more all → FromBlocks c a none all rest
      → Behind c a (entry_step c b number line (word_line_of line)) left
  start_by b number line left [] rest all spelled form few proved blocks =
      blocks_by b number line left (word_line_of line) refl (subst (λ es. FromBlocks c a none es (line ∷ left)) proved (subst (FromBlocks c a none all) (sym spelled) blocks))
  start_by b number line left (e ∷ more) rest all spelled form few proved blocks = start_opening b number line left e more rest all spelled form (few (omega arith)) proved blocks

  start_on : (b : Body) (number : ℕ) (line : List ℕ) (left : List (List ℕ)) → FromListing c a b (line ∷ left) → Behind c a (entry_step c b number line (word_line_of line)) left
  start_on b number line left h = start_by b number line left h.more h.rest h.all h.spelled h.form h.few h.proved h.blocks

  entry_begun : (b : Body) (line : List ℕ) (left : List (List ℕ)) (o : Opening) → IsWordLine line (lines.Opening o) → length b.entries < MAX_ENTRIES
      → FromUses c b o left (FromListing c a) → FromListing c a b (line ∷ left)
  entry_begun b line left o is room h =
      let cl : ClausesTail c b (begin_entry o h.uses) h.rest (FromListing c a) = h.clauses in
      let pr : ProofsTail c b (record { kind = o.kind; clauses = cl.clauses; uses = h.uses }) 0 cl.rest (FromListing c a) = cl.proofs in
      let entry : Entry = record { kind = o.kind; clauses = cl.clauses; uses = h.uses } in
      let others : FromListing c a (with_entry b entry) pr.rest = pr.others in
      let e : Written = record { kind = o.kind; clauses = cl.literals; uses = h.uses; proofs = pr.proofs } in
      let n : 0 + length cl.clauses ≡ o.clauses = cl.count in
      let both : length cl.literals ≡ length cl.clauses = as_many c cl.literals cl.clauses cl.are in
      let many : length cl.literals ≡ o.clauses = omega (arith, n, both) in
      let proofs : length pr.proofs ≡ length cl.clauses = let m : 0 + length pr.proofs ≡ length cl.clauses = pr.count in omega (arith, m) in
      let numbers : IsNumber o.clauses × IsNumber o.uses = is.numbers in
      let text : line ≡ word_line_text (opening_line e) =
      is.spelled ∙ (λ j. word_line_text (lines.Opening (record { kind = o.kind; clauses = sym many j; uses = sym h.count j }))) in
      let clause_lines = map clause_text cl.literals in
      let all_lines = flat_map proof_lines pr.proofs in
      let under : h.rest ≡ ((clause_lines ++ all_lines) ++ flat_map entry_lines others.more) ++ others.rest =
      cl.spelled ∙ ap (λ ls. clause_lines ++ ls) (pr.spelled ∙ ap (λ ls. all_lines ++ ls) others.spelled)
      ∙ sym (regrouped clause_lines all_lines (flat_map entry_lines others.more) others.rest) in
      let below : left ≡ uses_text (map written h.uses) ∷ (((clause_lines ++ all_lines) ++ flat_map entry_lines others.more) ++ others.rest) =
      h.spelled ∙ ap (λ ls. uses_text (map written h.uses) ∷ ls) under in
      let can : CanBeWritten b.version e = record {
        sizes = (subst IsNumber (sym many) numbers.0, subst IsNumber (sym h.count) numbers.1);
        uses = h.signs;
        literals = cl.numbers;
        proofs = pr.sizes;
      }
      in
      let longer = length-append b.entries (entry ∷ []) in
      record {
        more = e ∷ others.more;
        rest = others.rest;
        spelled = λ j. text j ∷ below j;
        form = All-cons (CanBeWritten b.version) e others.more can others.form;
        few = λ some. few_more others.more (length b.entries) MAX_ENTRIES room (λ more. let r = others.few more in omega (arith, r, longer));
        all = others.all;
        proved = (cl.clauses, cl.are, proved_by_each c b.entries entry pr.proofs (clauses_over c cl.literals cl.clauses cl.are) proofs (h.fit, cl.based, pr.passes), others.proved);
        blocks = others.blocks;
      }

  start_opened : (b : Body) (line : List ℕ) (left : List (List ℕ)) (o : Opening) → IsWordLine line (lines.Opening o) → (t : Bool) → nat_lt (length b.entries) MAX_ENTRIES ≡ t
      → Behind c a (after_answer (λ s. Ok (Listing s)) Plain (if t then Ok (Certified b (EntryUses o)) else Err faults.TooLong)) left → FromListing c a b (line ∷ left)
  start_opened b line left o is true test h = entry_begun b line left o is (ltb-true (length b.entries) MAX_ENTRIES test) h
  start_opened b line left o is false test h = absurd h

  no_more_entries : (b : Body) (line : List ℕ) (left : List (List ℕ)) → FromBlocks c a none b.entries (line ∷ left) → FromListing c a b (line ∷ left)
  no_more_entries b line left h = record {
    more = [];
    rest = line ∷ left;
    spelled = refl;
    form = All-nil (CanBeWritten b.version);
    few = λ some. absurd (omega (arith, some));
    all = b.entries;
    proved = refl;
    blocks = h;
  }

  start_from : (b : Body) (number : ℕ) (line : List ℕ) (left : List (List ℕ)) (o : Option WordLine) → word_line_of line ≡ o → Behind c a (entry_step c b number line o) left
      → FromListing c a b (line ∷ left)
  start_from b number line left (Some (lines.Opening o)) is h =
      start_opened b line left o (word_given_line line (lines.Opening o) is) (nat_lt (length b.entries) MAX_ENTRIES) refl h
  start_from b number line left (Some (lines.Version v)) is h = no_more_entries b line left (between_back c a none b.entries number line left h)
  start_from b number line left (Some (lines.Proof m)) is h = no_more_entries b line left (between_back c a none b.entries number line left h)
  start_from b number line left (Some (lines.Refutation r)) is h = no_more_entries b line left (between_back c a none b.entries number line left h)
  start_from b number line left (Some lines.End) is h = no_more_entries b line left (between_back c a none b.entries number line left h)
  start_from b number line left None is h = no_more_entries b line left (between_back c a none b.entries number line left h)

  abbrev further_of : answers.Stepped → Stepped
  further_of r = after_answer (λ s. Ok (Listing s)) Plain r

  further_on : (r : answers.Stepped) (left : List (List ℕ)) → Within IsEntry r → After c r left (FromListing c a) → Behind c a (further_of r) left
  further_on (Ok (Certified b Start)) left well h = h
  further_on (Ok (Certified b (EntryUses o))) left well h = h
  further_on (Ok (Certified b (EntryClause begun))) left well h = h
  further_on (Ok (Certified b (EntryProof e i))) left well h = h
  further_on (Ok (Certified b (EntryLine e i p))) left well h = h
  further_on (Ok (Certified b (RefutationUses r))) left well h = absurd well
  further_on (Ok (Certified b (RefutationLine p))) left well h = absurd well
  further_on (Ok (Certified b Last)) left well h = absurd well
  further_on (Ok answers.Status) left well h = absurd well
  further_on (Ok (answers.Property claim)) left well h = absurd well
  further_on (Ok (Latches n)) left well h = absurd well
  further_on (Ok (Rows n s)) left well h = absurd well
  further_on (Ok (Dotted n s)) left well h = absurd well
  further_on (Ok (answers.Versioned n)) left well h = absurd well
  further_on (Ok (answers.Ended b)) left well h = absurd well
  further_on (Err fault) left well h = absurd h

  further_from : (r : answers.Stepped) (left : List (List ℕ)) → Behind c a (further_of r) left → After c r left (FromListing c a)
  further_from (Ok (Certified b Start)) left h = h
  further_from (Ok (Certified b (EntryUses o))) left h = h
  further_from (Ok (Certified b (EntryClause begun))) left h = h
  further_from (Ok (Certified b (EntryProof e i))) left h = h
  further_from (Ok (Certified b (EntryLine e i p))) left h = h
  further_from (Ok (Certified b (RefutationUses r))) left h = absurd h
  further_from (Ok (Certified b (RefutationLine p))) left h = absurd h
  further_from (Ok (Certified b Last)) left h = absurd h
  further_from (Ok answers.Status) left h = absurd h
  further_from (Ok (answers.Property claim)) left h = absurd h
  further_from (Ok (Latches n)) left h = absurd h
  further_from (Ok (Rows n s)) left h = absurd h
  further_from (Ok (Dotted n s)) left h = absurd h
  further_from (Ok (answers.Versioned n)) left h = absurd h
  further_from (Ok (answers.Ended b)) left h = absurd h
  further_from (Err fault) left h = absurd h

  list_on : (s : answers.State) (number : ℕ) (line : List ℕ) (left : List (List ℕ)) → Lists c a s (line ∷ left) → Behind c a (listing_step c s number line) left
  list_on (Certified b Start) number line left h = start_on b number line left h
  list_on (Certified b (EntryUses o)) number line left h =
      further_on (answers.step c (Certified b (EntryUses o)) number line) left (entry_uses_well b o number (uses_of b.version line)) (entry_uses_on c b (FromListing c a) o number line left h)
  list_on (Certified b (EntryClause begun)) number line left h =
      further_on (answers.step c (Certified b (EntryClause begun)) number line) left (entry_clause_well c b begun number (literals_of line)) (clause_on c b (FromListing c a) begun number line left h)
  list_on (Certified b (EntryProof e i)) number line left h =
      further_on (answers.step c (Certified b (EntryProof e i)) number line) left (entry_proof_well c b e i number (word_line_of line)) (entry_proof_on c b e (FromListing c a) i number line left h)
  list_on (Certified b (EntryLine e i p)) number line left h =
      further_on (answers.step c (Certified b (EntryLine e i p)) number line) left (entry_line_well b e i p (judge p.state line)) (entry_line_on c b e (FromListing c a) i p line left h)
  list_on (Certified b (RefutationUses r)) number line left h = absurd h
  list_on (Certified b (RefutationLine p)) number line left h = absurd h
  list_on (Certified b Last) number line left h = absurd h
  list_on answers.Status number line left h = absurd h
  list_on (answers.Property claim) number line left h = absurd h
  list_on (Latches n) number line left h = absurd h
  list_on (Rows n s) number line left h = absurd h
  list_on (Dotted n s) number line left h = absurd h
  list_on (answers.Versioned n) number line left h = absurd h
  list_on (answers.Ended b) number line left h = absurd h

  list_back : (s : answers.State) (number : ℕ) (line : List ℕ) (left : List (List ℕ)) → IsEntry s → Behind c a (listing_step c s number line) left → Lists c a s (line ∷ left)
  list_back (Certified b Start) number line left well h = start_from b number line left (word_line_of line) refl h
  list_back (Certified b (EntryUses o)) number line left well h =
      entry_uses_back c b (FromListing c a) o number line left (further_from (answers.step c (Certified b (EntryUses o)) number line) left h)
  list_back (Certified b (EntryClause begun)) number line left well h =
      clause_back_on c b (FromListing c a) begun number line left (further_from (answers.step c (Certified b (EntryClause begun)) number line) left h)
  list_back (Certified b (EntryProof e i)) number line left well h =
      entry_proof_back c b e (FromListing c a) i number line left (further_from (answers.step c (Certified b (EntryProof e i)) number line) left h)
  list_back (Certified b (EntryLine e i p)) number line left well h =
      entry_line_back c b e (FromListing c a) i p line left (further_from (answers.step c (Certified b (EntryLine e i p)) number line) left h)
  list_back (Certified b (RefutationUses r)) number line left well h = absurd well
  list_back (Certified b (RefutationLine p)) number line left well h = absurd well
  list_back (Certified b Last) number line left well h = absurd well
  list_back answers.Status number line left well h = absurd well
  list_back (answers.Property claim) number line left well h = absurd well
  list_back (Latches n) number line left well h = absurd well
  list_back (Rows n s) number line left well h = absurd well
  list_back (Dotted n s) number line left well h = absurd well
  list_back (answers.Versioned n) number line left well h = absurd well
  list_back (answers.Ended b) number line left well h = absurd well

-- ---- the head

count_given_by : (line : List ℕ) (k : ℕ) (test : Bool) → bytes_eq (take 4 line) (codes "all ") ≡ test → (if test then number_in (drop 4 line) else None) ≡ Some k
    → (k < 2 ^ 63) × (line ≡ all_line k)
count_given_by line k true is e =
    let front : take 4 line ≡ codes "all " = (bytes_eq-Decides (take 4 line) (codes "all ")).0 is in
    let digits = number_given (drop 4 line) k e in
    (digits.0, sym (take-append-drop 4 line) ∙ ap (λ xs. xs ++ drop 4 line) front ∙ ap (λ xs. codes "all " ++ xs) digits.1)
count_given_by line k false is e = absurd (none-some k e)

count_given : (line : List ℕ) (k : ℕ) → count_in line ≡ Some k → (k < 2 ^ 63) × (line ≡ all_line k)
count_given line k e = count_given_by line k (bytes_eq (take 4 line) (codes "all ")) refl e

count_back : (k : ℕ) → k < 2 ^ 63 → count_in (all_line k) ≡ Some k
count_back k small = number_back k small

module _ (c : Circuit) (a : Accepted) where
  version_on : (number : ℕ) (line : List ℕ) (left : List (List ℕ)) → Completes c a Versioned (line ∷ left) → Behind c a (version_step number (word_line_of line)) left
  version_on number line left (others, spelled, h) =
      let parts = heads line version_line left others spelled in
      let read : word_line_of line ≡ Some (lines.Version Two) = word_back line (lines.Version Two) (record { numbers = tt; spelled = parts.0 }) in
      subst (λ o. Behind c a (version_step number o) left) (sym read) (subst (FromListing c a no_entries) (sym parts.1) h)

  version_from : (number : ℕ) (line : List ℕ) (left : List (List ℕ)) (o : Option WordLine) → word_line_of line ≡ o → Behind c a (version_step number o) left
      → Completes c a Versioned (line ∷ left)
  version_from number line left (Some (lines.Version Two)) is h = (left, ap (λ l. l ∷ left) (word_given_line line (lines.Version Two) is).spelled, h)
  version_from number line left (Some (lines.Version One)) is h = absurd h
  version_from number line left (Some (lines.Opening o)) is h = absurd h
  version_from number line left (Some (lines.Proof m)) is h = absurd h
  version_from number line left (Some (lines.Refutation r)) is h = absurd h
  version_from number line left (Some lines.End) is h = absurd h
  version_from number line left None is h = absurd h

  abbrev count_test : ℕ → Bool → Stepped
  count_test count b = if b then Ok Versioned else Err (Plain (faults.NoProperty count))

  first_on : (number : ℕ) (line : List ℕ) (left : List (List ℕ)) → Completes c a First (line ∷ left) → Behind c a (first_step c number (count_in line)) left
  first_on number line left (small, others, spelled, h) =
      let count : ℕ = length c.justice in
      let parts = heads line (all_line count) left (version_line ∷ others) spelled in
      let read : count_in line ≡ Some count = ap count_in parts.0 ∙ count_back count small in
      subst (λ o. Behind c a (first_step c number o) left) (sym read)
      (subst (λ b. Behind c a (count_test count b) left) (sym (eq-eqb count count refl)) (others, parts.1, h))

  counted : (line : List ℕ) (left : List (List ℕ)) (count : ℕ) (b : Bool) → (count < 2 ^ 63) × (line ≡ all_line count) → (count == length c.justice) ≡ b
      → Behind c a (count_test count b) left → Completes c a First (line ∷ left)
  counted line left count true (small, is) test (others, spelled, h) =
      let same : count ≡ length c.justice = eqb-true count (length c.justice) test in
      (subst (λ n. n < 2 ^ 63) same small, others, (λ j. (is ∙ ap all_line same) j ∷ spelled j), h)
  counted line left count false given test h = absurd h

  first_from : (number : ℕ) (line : List ℕ) (left : List (List ℕ)) (o : Option ℕ) → count_in line ≡ o → Behind c a (first_step c number o) left → Completes c a First (line ∷ left)
  first_from number line left (Some count) is h = counted line left count (count == length c.justice) (count_given line count is) refl h
  first_from number line left None is h = absurd h

-- ---- no line

no_block : (n : ℕ) (blocks : List Block) → AreBlocks n blocks [] → ⊥
no_block n [] spelled = no_front end_line [] [] spelled
no_block n (Lasso s ∷ blocks) (rows, others, is, spells, more) = no_front (lasso_line n) [] (rows ++ others) is
no_block n (Holds r ∷ blocks) (others, is, more) = no_front (holds_line n) [] (refutation_lines (refuting r) ++ others) is
no_block n (Open ∷ blocks) (others, is, more) = no_front (open_line n) [] others is

no_entry : (n : ℕ) (more : List Written) (blocks : List Block) (rest : List (List ℕ)) → [] ≡ flat_map entry_lines more ++ rest → AreBlocks n blocks rest → ⊥
no_entry n [] blocks rest spelled h = no_block n blocks (subst (AreBlocks n blocks) (sym spelled) h)
no_entry n (e ∷ more) blocks rest spelled h = cc

module _ (c : Circuit) (a : Accepted) where
  list_end : (s : answers.State) → Lists c a s [] → ⊥
  list_end (Certified b Start) h = no_entry (total none) h.more h.blocks.blocks h.rest h.spelled h.blocks.spelled
  list_end (Certified b (EntryUses o)) h = no_front _ [] h.rest h.spelled
  list_end (Certified b (EntryClause begun)) (h, other) = no_clause c (length begun.entry.clauses) begun.count h.literals h.clauses h.rest h.spelled h.are h.count other
  list_end (Certified b (EntryProof e i)) (h, other) = no_proof i (length e.clauses) h.proofs h.rest h.spelled h.count other
  list_end (Certified b (EntryLine e i p)) (h, other) = no_proof_line p.read p.count h.proof h.rest h.spelled h.count other
  list_end (Certified b (RefutationUses r)) h = h
  list_end (Certified b (RefutationLine p)) h = h
  list_end (Certified b Last) h = h
  list_end answers.Status h = h
  list_end (answers.Property claim) h = h
  list_end (Latches n) h = h
  list_end (Rows n s) h = h
  list_end (Dotted n s) h = h
  list_end (answers.Versioned n) h = h
  list_end (answers.Ended b) h = h

  proof_end : (t : Counts) (s : answers.State) → Proves c a t s [] → ⊥
  proof_end t (Certified b (RefutationUses r)) h = no_front _ [] (h.proof ++ h.rest) h.spelled
  proof_end t (Certified b (RefutationLine p)) (h, other) = no_proof_line p.read p.count h.proof h.rest h.spelled h.count other
  proof_end t (Certified b Start) h = h
  proof_end t (Certified b (EntryUses o)) h = h
  proof_end t (Certified b (EntryClause begun)) h = h
  proof_end t (Certified b (EntryProof e i)) h = h
  proof_end t (Certified b (EntryLine e i p)) h = h
  proof_end t (Certified b Last) h = h
  proof_end t answers.Status h = h
  proof_end t (answers.Property claim) h = h
  proof_end t (Latches n) h = h
  proof_end t (Rows n s) h = h
  proof_end t (Dotted n s) h = h
  proof_end t (answers.Versioned n) h = h
  proof_end t (answers.Ended b) h = h

  row_end : (n : ℕ) (s : answers.State) (K : Stimulus → List (List ℕ) → Type 0) → Rowing n s [] K → ⊥
  row_end n (Latches m) K (same, h) = no_front (codes ".") h.rows h.rest h.spelled
  row_end n (Rows m s) K (same, h) = no_front (codes ".") h.rows h.rest h.spelled
  row_end n (Dotted m s) K h = h
  row_end n (Certified b wanted) K h = h
  row_end n answers.Status K h = h
  row_end n (answers.Property claim) K h = h
  row_end n (answers.Versioned m) K h = h
  row_end n (answers.Ended b) K h = h

  end_on : (s : State) → Completes c a s [] → IsGoodAtEnd s a
  end_on First (small, others, spelled, h) = absurd (no_front (all_line (length c.justice)) [] (version_line ∷ others) spelled)
  end_on Versioned (others, spelled, h) = absurd (no_front version_line [] others spelled)
  end_on (Listing s) h = absurd (list_end s h)
  end_on (Between t entries) h = absurd (no_block (total t) h.blocks h.spelled)
  end_on (Refuting t entries) h = absurd (no_front _ [] _ h.spelled)
  end_on (Proving t s) h = absurd (proof_end t s h)
  end_on (Showing t entries s) h = absurd (row_end (total t) s (BehindDot c a t entries) h)
  end_on (Done t entries) h = h.1

  end_back : (s : State) → IsGoodAtEnd s a → Completes c a s []
  end_back First h = absurd h
  end_back Versioned h = absurd h
  end_back (Listing s) h = absurd h
  end_back (Between t entries) h = absurd h
  end_back (Refuting t entries) h = absurd h
  end_back (Proving t s) h = absurd h
  end_back (Showing t entries s) h = absurd h
  end_back (Done t entries) h = (refl, h)

-- ---- all lines

module _ (c : Circuit) (a : Accepted) (replays : Replays) (are : AreReplays c replays) where
  step_on : (s : State) (number : ℕ) (line : List ℕ) (left : List (List ℕ)) → Completes c a s (line ∷ left) → Behind c a (step c replays s number line) left
  step_on First number line left h = first_on c a number line left h
  step_on Versioned number line left h = version_on c a number line left h
  step_on (Listing s) number line left h = list_on c a s number line left h
  step_on (Between t entries) number line left h = between_on c a t entries number line left h
  step_on (Refuting t entries) number line left h = refute_on c a t entries number line left h
  step_on (Proving t s) number line left h = prove_on c a t s number line left h
  step_on (Showing t entries s) number line left h = show_on c a replays are t entries s number line left h
  step_on (Done t entries) number line left h = absurd (no_line line left h.0)
    where
      no_line : (line : List ℕ) (left : List (List ℕ)) → line ∷ left ≡ [] → ⊥
      no_line line left e = absurd (cc)

  step_back : (s : State) (number : ℕ) (line : List ℕ) (left : List (List ℕ)) → IsWell s → Behind c a (step c replays s number line) left → Completes c a s (line ∷ left)
  step_back First number line left well h = first_from c a number line left (count_in line) refl h
  step_back Versioned number line left well h = version_from c a number line left (word_line_of line) refl h
  step_back (Listing s) number line left well h = list_back c a s number line left well h
  step_back (Between t entries) number line left well h = between_back c a t entries number line left h
  step_back (Refuting t entries) number line left well h = refute_back c a t entries number line left h
  step_back (Proving t s) number line left well h = prove_back c a t s number line left well h
  step_back (Showing t entries s) number line left well h = show_back c a replays are t entries s number line left well h
  step_back (Done t entries) number line left well h = absurd h

  abbrev pub EndsWell : Stepped → Type 0
  EndsWell r = (t : State) × (r ≡ Ok t) × IsGoodAtEnd t a

  then_well : (r : Stepped) (lines : List Numbered) → ((t : State) → Completes c a t (bare lines) → EndsWell (read_lines c replays t lines)) → Behind c a r (bare lines)
      → EndsWell (and_then r (λ t. read_lines c replays t lines))
  then_well (Ok t) lines recur h = recur t h
  then_well (Err fault) lines recur h = absurd h

  pub completed_reads : (lines : List Numbered) (s : State) → Completes c a s (bare lines) → EndsWell (read_lines c replays s lines)
  completed_reads [] s h = (s, refl, end_on c a s h)
  completed_reads (line ∷ lines) s h =
      then_well (step c replays s line.0 line.1) lines (λ t g. completed_reads lines t g) (step_on s line.0 line.1 (bare lines) h)

  well_then : (r : Stepped) (lines : List Numbered) → WellOk r → ((t : State) → IsWell t → EndsWell (read_lines c replays t lines) → Completes c a t (bare lines))
      → EndsWell (and_then r (λ t. read_lines c replays t lines)) → Behind c a r (bare lines)
  well_then (Ok t) lines well recur h = recur t well h
  well_then (Err fault) lines well recur (t, e, good) = absurd (cc)

  same_state : (s t : State) → ◌≡◌ {A = Stepped} (Ok s) (Ok t) → s ≡ t
  same_state s t e = cc

  pub read_completes : (lines : List Numbered) (s : State) → IsWell s → EndsWell (read_lines c replays s lines) → Completes c a s (bare lines)
  read_completes [] s well (t, e, good) = end_back c a s (subst (λ u. IsGoodAtEnd u a) (sym (same_state s t e)) good)
  read_completes (line ∷ lines) s well h =
      step_back s line.0 line.1 (bare lines) well
      (well_then (step c replays s line.0 line.1) lines (step_well c replays s line.0 line.1 well) (λ t inside g. read_completes lines t inside g) h)
