-- What is written of a literal of a circuit is a small number, and is read as that literal.
use Rattle.std.proofs.Common.{◌≡◌, ◌≢◌, ◌<◌, ◌^◌, ◌/◌, ◌%◌, ◌*◌, ℕ, zero, suc, ◌+◌, Bool, true, false, not, List, [], ◌∷◌, ◌++◌, map, length, get_or, refl, sym, ap, ◌∙◌, arith, inl, inr, Some, Ok, append_assoc, append-nil}
use Rattle.std.specs.Prelude.{slice_get, if◌then◌else◌, ◌==◌}
use Rattle.std.specs.List.{All}
use Rattle.std.proofs.lemmas.Bool.{eq-eqb, ne_eqb}
use Rattle.std.proofs.lemmas.List.{length-map, get_or-map}
use Rattle.std.proofs.lemmas.List.Elements.{All-head, All-tail, All-map}
use Rattle.std.proofs.lemmas.Option.{same_Some, none-some, slice_get_cases, slice_get_within, get_or_from_slice_get}
use Rattle.aig_semantics.specs.declared.parts.Latch.{Latch}
use Rattle.aig_semantics.specs.Literals.{variable_of, is_negated}
use Rattle.aig_semantics.specs.Circuits.{Circuit, IsChecked, IsWithinLimits}
use Rattle.aig_semantics.proofs.Lists.{AllDiffer, AllDiffer-tail, AllDiffer-left, AllDiffer-right}
use Rattle.proof_semantics.specs.declared.literals.Lit.{Lit}
use Rattle.cnf_unroll.specs.Laws.{AreOver}
use Rattle.certificate_lines.specs.Fields.{IsNumber}
use Rattle.entry.specs.Clauses.{latch_from, latch_literal, with_literal, clause_behind}
use Rattle.certificate.specs.Certificates.{AreClausesOf}
use Rattle.certificate_texts.specs.Writing.{variable_of_latch, literal_in_model}
use Rattle.certificate_texts.proofs.Variables.{variable_small}

-- the latch at a place is the first with its variable
found_at : (n k : ℕ) (latches : List Latch) (latch : Latch) → AllDiffer (map (λ l. l.var) latches) → slice_get latches k ≡ Some latch
    → latch_from n latch.var latches ≡ Some (n + k)
found_at n k [] latch differ at = absurd (none-some latch at)
found_at n zero (l ∷ latches) latch differ at =
    let same : l.var ≡ latch.var = ap (λ x. x.var) (same_Some l latch at) in
    let none_more : n ≡ n + 0 = omega arith in
    rw (eq-eqb l.var latch.var same) (ap Some none_more)
found_at n (suc k) (l ∷ latches) latch differ at =
    let within : k < length latches = slice_get_within latches k latch at in
    let there : get_or (map (λ x. x.var) latches) k latch.var ≡ latch.var =
    get_or-map (λ (x : Latch). x.var) latches k latch latch.var within ∙ ap (λ x. x.var) (get_or_from_slice_get latches k latch latch at) in
    let count : length (map (λ (x : Latch). x.var) latches) ≡ length latches = length-map latches (λ (x : Latch). x.var) in
    let apart : l.var ≢ latch.var = λ e. differ 0 (suc k) latch.var (omega arith) (omega (arith, within, count)) (e ∙ sym there) in
    let one_more : n + 1 + k ≡ n + suc k = omega arith in
    rw (ne_eqb l.var latch.var apart) (found_at (n + 1) k latches latch (AllDiffer-tail l.var (map (λ x. x.var) latches) differ) at ∙ ap Some one_more)

twice : (v : ℕ) → (2 * v + 0) / 2 ≡ v
twice v = omega arith

twice_odd : (v : ℕ) → (2 * v + 1) / 2 ≡ v
twice_odd v = omega arith

even : (v : ℕ) → (2 * v + 0) % 2 ≡ 0
even v = omega arith

odd : (v : ℕ) → (2 * v + 1) % 2 ≡ 1
odd v = omega arith

sign_small : (v : ℕ) (positive : Bool) → v < 2 ^ 32 → 2 * v + (if positive then 0 else 1) < 2 ^ 63
sign_small v true h = omega (arith, h)
sign_small v false h = omega (arith, h)

module _ (t : Circuit) (checked : IsChecked t) (limits : IsWithinLimits t) where
  abbrev vars : List ℕ
  vars = map (λ latch. latch.var) t.latches

  latches_differ : AllDiffer vars
  latches_differ = AllDiffer-right t.inputs vars (AllDiffer-left (t.inputs ++ vars) (map (λ gate. gate.var) t.gates) checked.once)

  abbrev of_latch : Latch → Bool → ℕ
  of_latch latch positive = 2 * latch.var + (if positive then 0 else 1)

  found : (v : ℕ) (latch : Latch) → slice_get t.latches v ≡ Some latch → latch_from 0 latch.var t.latches ≡ Some v
  found v latch at = let same : 0 + v ≡ v = omega arith in found_at 0 v t.latches latch latches_differ at ∙ ap Some same

  literal_by : (n v : ℕ) (negated positive : Bool) (latch : Latch) → slice_get t.latches v ≡ Some latch → variable_of n ≡ latch.var → is_negated n ≡ negated
      → not negated ≡ positive → latch_literal t n ≡ Some (record { var = v; positive = positive })
  literal_by n v negated positive latch at same sign is =
      rw same (rw sign (rw (found v latch at) (ap (λ (b : Bool). Some (record { var = v; positive = b })) is)))

  back_by : (v : ℕ) (positive : Bool) (latch : Latch) → slice_get t.latches v ≡ Some latch
      → latch_literal t (of_latch latch positive) ≡ Some (record { var = v; positive = positive })
  back_by v true latch at = literal_by (of_latch latch true) v false true latch at (twice latch.var) (ap (λ n. n == 1) (even latch.var)) refl
  back_by v false latch at = literal_by (of_latch latch false) v true false latch at (twice_odd latch.var) (ap (λ n. n == 1) (odd latch.var)) refl

  there : (v : ℕ) → v < length t.latches → (latch : Latch) × (slice_get t.latches v ≡ Some latch)
  there v within = elim ((slice_get_cases t.latches v).1) [
    | inl (latch, below, at, is) ↦ (latch, at)
    | inr (past, none) ↦ absurd (omega (arith, within, past))
  ]

  literal_back : (l : Lit) → l.var < length t.latches → latch_literal t (literal_in_model t l) ≡ Some l
  literal_back l within =
      let (latch, at) = there l.var within in
      ap (λ o. latch_literal t (2 * variable_of_latch o + (if l.positive then 0 else 1))) at ∙ back_by l.var l.positive latch at

  clause_back : (front clause : List Lit) → All (λ l. l.var < length t.latches) clause
      → clause_behind t front (map (literal_in_model t) clause) ≡ Ok (front ++ clause)
  clause_back front [] over = ap Ok (sym (append-nil front))
  clause_back front (l ∷ clause) over =
      ap (λ o. with_literal o (literal_in_model t l) (λ x. clause_behind t (front ++ x ∷ []) (map (literal_in_model t) clause)))
      (literal_back l (All-head (λ x. x.var < length t.latches) l clause over))
      ∙ clause_back (front ++ l ∷ []) clause (All-tail (λ x. x.var < length t.latches) l clause over)
      ∙ ap Ok (append_assoc front (l ∷ []) clause)

  -- what is written of clauses is read as them
  pub clauses_back : (clauses : List (List Lit)) → AreOver (length t.latches) clauses → AreClausesOf t (map (map (literal_in_model t)) clauses) clauses
  clauses_back [] over = refl
  clauses_back (clause ∷ clauses) over =
      let Over : List Lit → Type 0 = λ ls. All (λ l. l.var < length t.latches) ls in
      let first = clause_back [] clause (All-head Over clause clauses over) in
      let others = clauses_back clauses (All-tail Over clause clauses over) in
      λ j. first j ∷ others j

  literal_small : (l : Lit) → IsNumber (literal_in_model t l)
  literal_small l = sign_small (variable_of_latch (slice_get t.latches l.var)) l.positive (variable_small t checked limits (slice_get t.latches l.var) l.var refl)

  pub literals_small : (clause : List Lit) → All IsNumber (map (literal_in_model t) clause)
  literals_small clause = All-map IsNumber (literal_in_model t) clause (λ k d below. literal_small (get_or clause k d))
