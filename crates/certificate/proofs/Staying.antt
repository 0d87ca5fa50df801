-- A fault that is not of the text's end stays where more follows.
use Rattle.std.proofs.Common.{◌≡◌, ◌≤◌, ◌<◌, ◌⊎◌, ℕ, ◌+◌, Bool, true, false, List, [], ◌∷◌, ◌++◌, length, refl, sym, ap, subst, ◌∙◌, arith, Ok, Err, inl, inr, All, append-nil, length-append}
use Rattle.std.specs.Prelude.{if◌then◌else◌}
use Rattle.std.proofs.lemmas.Bool.{cases_lt}
use Rattle.text_grammar.specs.Lines.{ended_lines}
use Rattle.text_grammar.specs.Pieces.{Lacks}
use Rattle.aig_semantics.specs.declared.traces.Stimulus.{Stimulus}
use Rattle.aig_semantics.specs.Circuits.{Circuit}
use Rattle.stimulus.specs.Texts.{is_skipped}
use Rattle.answer_lines.specs.Left.{most_bytes}
use Rattle.certificate.specs.declared.ends.AnswerFault.{AnswerFault}
use Rattle.certificate.specs.declared.ends.AnswerFault.TheVariants as faults
use Rattle.certificate.specs.Lines.{Numbered, kept_from, end_of, kept_readable}
use Rattle.certificate.specs.Reading.{State, Status, Property, Latches, Rows, Dotted, Versioned, Certified, Ended, Stepped, step, and_then, read_lines}
use Rattle.certificate.specs.Ends.{IsReplayFault, IsFaultAtEnd, IsFirstFault, IsRefused}
use Rattle.certificate.specs.Laws.{IsOfTheEnd, FaultsStay}
use Rattle.certificate.proofs.Readable.{begins, given_readable, past_limit}

-- ---- lines

then_more : (r : Stepped) (first second : State → Stepped) (f : AnswerFault) → and_then r first ≡ Err f
    → ((t : State) → first t ≡ Err f → second t ≡ Err f) → and_then r second ≡ Err f
then_more (Ok t) first second f e h = h t e
then_more (Err g) first second f e h = e

-- a fault of the first lines is that of all
read_more : (c : Circuit) (s : State) (xs ys : List Numbered) (f : AnswerFault) → read_lines c s xs ≡ Err f → read_lines c s (xs ++ ys) ≡ Err f
read_more c s [] ys f e = absurd (cc)
read_more c s (x ∷ xs) ys f e =
    then_more (step c s x.0 x.1) (λ t. read_lines c t xs) (λ t. read_lines c t (xs ++ ys)) f e (λ t g. read_more c t xs ys f g)

abbrev IsMore : List Numbered → List Numbered → Type 0
IsMore all front = (more : List Numbered) × (all ≡ front ++ more)

kept_step : (skips : Bool) (x : Numbered) (all front more : List Numbered) → all ≡ front ++ more
    → (if skips then all else x ∷ all) ≡ (if skips then front else x ∷ front) ++ more
kept_step true x all front more e = e
kept_step false x all front more e = ap (λ l. x ∷ l) e

kept_more : (n : ℕ) (xs ys : List (List ℕ)) → IsMore (kept_from n (xs ++ ys)) (kept_from n xs)
kept_more n [] ys = (kept_from n ys, refl)
kept_more n (x ∷ xs) ys =
    let later = kept_more (n + 1) xs ys in
    (later.0, kept_step (is_skipped x) (n, x) (kept_from (n + 1) (xs ++ ys)) (kept_from (n + 1) xs) later.0 later.1)

module _ (c : Circuit) (lines : List (List ℕ)) (rest : List ℕ) (lack : All (λ line. Lacks line 10) lines) where
  abbrev front : List ℕ
  front = ended_lines lines

  abbrev text : List ℕ
  text = front ++ rest

  same_kept : most_bytes < length front → kept_readable text ≡ kept_readable front
  same_kept long = ap (kept_from 1) (past_limit most_bytes front rest long)

  short_kept : length front ≤ most_bytes → IsMore (kept_readable text) (kept_readable front)
  short_kept short =
      let all = begins most_bytes lines rest lack short in
      let later = kept_more 1 lines all.0 in
      let own : kept_readable front ≡ kept_from 1 lines = ap (kept_from 1) (given_readable most_bytes lines lack short) in
      (later.0, ap (kept_from 1) all.1 ∙ later.1 ∙ ap (λ l. l ++ later.0) (sym own))

  more_kept : IsMore (kept_readable text) (kept_readable front)
  more_kept = elim (cases_lt most_bytes (length front)) [
    | inl long ↦ ([], same_kept long ∙ sym (append-nil (kept_readable front)))
    | inr above ↦ short_kept (omega (arith, above))
  ]

  -- ---- faults

  of_stimulus : (n : ℕ) (s : Stimulus) (fault : AnswerFault) → IsReplayFault c n s fault → IsOfTheEnd front fault
  of_stimulus n s (faults.Replay replay) h = tt
  of_stimulus n s (faults.Shape line) h = absurd h
  of_stimulus n s (faults.NoProperty line) h = absurd h
  of_stimulus n s (faults.Entry k fault) h = absurd h
  of_stimulus n s (faults.RefuteUse k) h = absurd h
  of_stimulus n s (faults.Refutation k fault) h = absurd h
  of_stimulus n s faults.TooLong h = absurd h
  of_stimulus n s (faults.Trailing line) h = absurd h
  of_stimulus n s faults.UnknownStatus h = absurd h
  of_stimulus n s (faults.FewRounds rounds) h = absurd h

  wanted : (fault : AnswerFault) → fault ≡ faults.Shape (end_of front) → IsOfTheEnd front fault
  wanted fault e = subst (λ f. IsOfTheEnd front f) (sym e) refl

  of_end : (s : State) (fault : AnswerFault) → IsFaultAtEnd c s (end_of front) fault → IsOfTheEnd front fault
  of_end (Dotted n s) fault h = of_stimulus n s fault h
  of_end (Ended body) fault h = absurd h
  of_end Status fault h = wanted fault h
  of_end (Property claim) fault h = wanted fault h
  of_end (Latches n) fault h = wanted fault h
  of_end (Rows n s) fault h = wanted fault h
  of_end (Versioned n) fault h = wanted fault h
  of_end (Certified body wants) fault h = wanted fault h

  refused_so : (r : Stepped) (fault : AnswerFault) → read_lines c Status (kept_readable text) ≡ r → IsFirstFault c text r fault → IsRefused c text fault
  refused_so r fault read first = subst (λ x. IsFirstFault c text x fault) (sym read) first

  stays_by : (r : Stepped) (fault : AnswerFault) → read_lines c Status (kept_readable front) ≡ r → IsFirstFault c front r fault
      → IsOfTheEnd front fault ⊎ IsRefused c text fault
  stays_by (Err first) fault read h =
      let more = more_kept in
      let same : read_lines c Status (kept_readable text) ≡ Err first =
      ap (λ l. read_lines c Status l) more.1 ∙ read_more c Status (kept_readable front) more.0 first read
      in
      inr (refused_so (Err first) fault same h)
  stays_by (Ok s) fault read (inl (long, is)) =
      let same : read_lines c Status (kept_readable text) ≡ Ok s = ap (λ l. read_lines c Status l) (same_kept long) ∙ read in
      inr (refused_so (Ok s) fault same (inl (omega (arith, long, length-append front rest), is)))
  stays_by (Ok s) fault read (inr (short, at_end)) = inl (of_end s fault at_end)

pub faults-stay : (c : Circuit) → FaultsStay c
faults-stay c lines rest fault lack refused = stays_by c lines rest lack (read_lines c Status (kept_readable (ended_lines lines))) fault refl refused
