-- The lines of a run lead to its end, and no others do.
use Rattle.std.proofs.Common.{◌≡◌, ℕ, Bool, true, false, List, [], ◌∷◌, ◌++◌, map, refl, sym, ap, ◌∙◌, subst, append_assoc, append-nil, Option, Some, None, Result, Ok, Err}
use Rattle.std.specs.Prelude.{codes, if◌then◌else◌}
use Rattle.std.specs.Str.{bytes_eq}
use Rattle.std.proofs.lemmas.Slice.Eq.{bytes_eq-Decides}
use Rattle.aig_semantics.specs.declared.traces.Stimulus.{Stimulus}
use Rattle.aig_semantics.specs.Circuits.{Circuit}
use Rattle.stimulus.specs.Texts.{value_of, row_values, present}
use Rattle.certificate.specs.Lines.{Numbered, bare}
use Rattle.certificate.specs.Answers.{Spells}
use Rattle.certificate.specs.Reading.{State, Latches, Rows, Dotted, Stepped, values_in, latches_step, row_step, step, and_then, read_lines}
use Rattle.certificate.proofs.CompletingTexts.{values_given}

same_end : (n m : ℕ) (s t : Stimulus) → ◌≡◌ {A = Stepped} (Ok (Dotted n s)) (Ok (Dotted m t)) → (m ≡ n) × (t ≡ s)
same_end n m s t e = (cc, cc)

no_end : (n m : ℕ) (s t : Stimulus) → ◌≡◌ {A = Stepped} (Ok (Rows n s)) (Ok (Dotted m t)) → ⊥
no_end n m s t e = cc

-- these rows, then the dot, and of the rows the inputs
abbrev RowsLeft : ℕ → Stimulus → List (List ℕ) → ℕ → Stimulus → Type 0
RowsLeft n s left m t =
    (m ≡ n) × (rows : List (List ℕ)) × (inputs : List (List Bool)) × (left ≡ rows ++ codes "." ∷ []) × (row_values rows ≡ present inputs)
    × (t ≡ record { latches = s.latches; inputs = s.inputs ++ inputs })

module _ (c : Circuit) (m : ℕ) (t : Stimulus) where
  ended : (n : ℕ) (s : Stimulus) (lines : List Numbered) → read_lines c (Dotted n s) lines ≡ Ok (Dotted m t) → (bare lines ≡ []) × (m ≡ n) × (t ≡ s)
  ended n s [] e = let (one, two) = same_end n m s t e in (refl, one, two)
  ended n s (line ∷ lines) e = absurd (cc)

  row_given : (n : ℕ) (s : Stimulus) (line : Numbered) (lines : List Numbered) (o : Option (List Bool)) → values_in line.1 ≡ o
      → ((u : Stimulus) → read_lines c (Rows n u) lines ≡ Ok (Dotted m t) → RowsLeft n u (bare lines) m t)
      → and_then (row_step n s line.0 o) (λ u. read_lines c u lines) ≡ Ok (Dotted m t) → RowsLeft n s (bare (line ∷ lines)) m t
  row_given n s line lines None is recur e = absurd (cc)
  row_given n s line lines (Some vs) is recur e =
      let (same, rows, inputs, left, values, whole) = recur (record { latches = s.latches; inputs = s.inputs ++ vs ∷ [] }) e in
      let first : map value_of line.1 ≡ map Some vs = values_given line.1 vs is in (
        same,
        line.1 ∷ rows,
        vs ∷ inputs,
        ap (λ ls. line.1 ∷ ls) left,
        (λ j. first j ∷ values j),
        whole ∙ ap (λ all. record { latches = s.latches; inputs = all }) (append_assoc s.inputs (vs ∷ []) inputs),
      )

  row_by : (n : ℕ) (s : Stimulus) (line : Numbered) (lines : List Numbered) (test : Bool) → bytes_eq line.1 (codes ".") ≡ test
      → ((u : Stimulus) → read_lines c (Rows n u) lines ≡ Ok (Dotted m t) → RowsLeft n u (bare lines) m t)
      → and_then (if test then Ok (Dotted n s) else row_step n s line.0 (values_in line.1)) (λ u. read_lines c u lines) ≡ Ok (Dotted m t)
      → RowsLeft n s (bare (line ∷ lines)) m t
  row_by n s line lines true is recur e =
      let (none, same, whole) = ended n s lines e in
      let dot : line.1 ≡ codes "." = (bytes_eq-Decides line.1 (codes ".")).0 is in
      (same, [], [], (λ j. dot j ∷ none j), refl, whole ∙ ap (λ all. record { latches = s.latches; inputs = all }) (sym (append-nil s.inputs)))
  row_by n s line lines false is recur e = row_given n s line lines (values_in line.1) refl recur e

  rows_left : (n : ℕ) (s : Stimulus) (lines : List Numbered) → read_lines c (Rows n s) lines ≡ Ok (Dotted m t) → RowsLeft n s (bare lines) m t
  rows_left n s [] e = absurd (no_end n m s t e)
  rows_left n s (line ∷ lines) e = row_by n s line lines (bytes_eq line.1 (codes ".")) refl (λ u h. rows_left n u lines h) e

  latches_by : (n : ℕ) (line : Numbered) (lines : List Numbered) (o : Option (List Bool)) → values_in line.1 ≡ o
      → and_then (latches_step n line.0 o) (λ u. read_lines c u lines) ≡ Ok (Dotted m t) → (m ≡ n) × Spells t (bare (line ∷ lines))
  latches_by n line lines None is e = absurd (cc)
  latches_by n line lines (Some vs) is e =
      let (same, rows, inputs, left, values, whole) = rows_left n (record { latches = vs; inputs = [] }) lines e in
      let first : map value_of line.1 ≡ map Some vs = values_given line.1 vs is in
      let all : row_values (line.1 ∷ rows) ≡ present (vs ∷ inputs) = λ j. first j ∷ values j in
      (same, (line.1 ∷ rows, ap (λ ls. line.1 ∷ ls) left, subst (λ (s : Stimulus). row_values (line.1 ∷ rows) ≡ present (s.latches ∷ s.inputs)) (sym whole) all))

  -- lines that are read as a run spell it
  pub run_spelled : (n : ℕ) (lines : List Numbered) → read_lines c (Latches n) lines ≡ Ok (Dotted m t) → (m ≡ n) × Spells t (bare lines)
  run_spelled n [] e = absurd (cc)
  run_spelled n (line ∷ lines) e = latches_by n line lines (values_in line.1) refl e
