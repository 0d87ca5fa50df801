-- Laws of the hints of unit clauses behind the clauses that a solver holds.
use Rattle.std.proofs.Common.{◌≡◌, ℕ, zero, suc, ◌+◌, ◌-◌, ◌<◌, Bool, true, false, not, take, List, [], ◌∷◌, ◌++◌, length, get_or, map, Option, Some, None, refl, ap, sym, ◌∙◌, inl, inr, arith, append_assoc}
use Rattle.std.specs.Prelude.{slice_get}
use Rattle.std.proofs.lemmas.Bool.{false≢true, and_parts, and_from, or_left, or_right, or_cases, cond-true, cond-false}
use Rattle.std.proofs.lemmas.List.Folds.{list_any-append}
use Rattle.std.proofs.lemmas.List.{append-nil}
use Rattle.std.proofs.lemmas.Option.{none-some}
use Rattle.proof_semantics.specs.Clauses.{lit_eq, negation, has_literal, has_opposites, cube_value, clauses_value}
use Rattle.proof_semantics.specs.Propagation.{open_literals, only_literal, with_clause, with_unit, conflict_fault, hints_fault}
use Rattle.proof_semantics.specs.declared.literals.Lit.{Lit}
use Rattle.proof_semantics.proofs.LiteralLaws.{lit_eq-same, lit_eq-true, negation_twice}
use Rattle.cdcl_trail.proofs.TrailLaws.{either, or_neither}
use Rattle.cdcl_trail.proofs.ScanLaws.{all_has, any_has, untrue}
use Rattle.cdcl_learn.specs.declared.learning.Learned.{Learned}
use Rattle.cnf.specs.Clauses.{clause_numbered}
use Rattle.cdcl.specs.Finding.{Refuses}
use Rattle.cdcl.specs.Solving.{IsModel}
use Rattle.cdcl_log.specs.UnitClauses.{unit_clauses}
use Rattle.cdcl.specs.UnitNumbers.{place_of, unit_number}
use Rattle.cdcl_log.proofs.LoggedLaws.{values_append}
use Rattle.cdcl_log.proofs.WritingLaws.{number_put}
use Rattle.cdcl_log.proofs.WithUnitsLaws.{slice_behind, hints_more}
use Rattle.cdcl.proofs.RefusalLaws.{part_negations}

-- Hints of units.

unit_first : (at : ℕ → Option (List Lit)) (assumed : List Lit) (n : ℕ) (a : Lit) (hints : List ℕ) → at n ≡ Some (a ∷ []) → has_literal assumed (negation a) ≡ false
    → hints_fault at (assumed ++ a ∷ []) hints ≡ None → hints_fault at assumed (n ∷ hints) ≡ None
unit_first at assumed n a [] is unfalsified follows = absurd (none-some _ (sym follows))
unit_first at assumed n a (m ∷ hints) is unfalsified follows =
    ap (λ o. with_clause o n (λ clause. with_unit (only_literal (open_literals assumed clause)) n (λ b. hints_fault at (assumed ++ b ∷ []) (m ∷ hints)))) is
    ∙ ap (λ lits. with_unit (only_literal lits) n (λ b. hints_fault at (assumed ++ b ∷ []) (m ∷ hints)))
    (cond-true (not (has_literal assumed (negation a))) (a ∷ []) [] (ap not unfalsified))
    ∙ follows

number_place : (clauses : List (List Lit)) (units : List Lit) (a : Lit) → has_literal units a ≡ true → clause_numbered (clauses ++ unit_clauses units) (unit_number (length clauses) units a) ≡ Some (a ∷ [])
number_place clauses units a has =
    number_put (clauses ++ unit_clauses units) (unit_number (length clauses) units a) (a ∷ []) (λ e. omega (arith, e))
    (slice_behind clauses (unit_clauses units) (place_of units a) (unit_number (length clauses) units a - 1) (one_less (length clauses) (place_of units a)) ∙ place_has units a has)
  where
    one_less : (m i : ℕ) → (m + i + 1) - 1 ≡ m + i
    one_less m i = omega arith

    place_has : (units : List Lit) (a : Lit) → has_literal units a ≡ true → slice_get (unit_clauses units) (place_of units a) ≡ Some (a ∷ [])
    place_has [] a has = absurd (false≢true has)
    place_has (b ∷ units) a has =
        elim (either (lit_eq a b)) [
          | inl same ↦
              ap (slice_get (unit_clauses (b ∷ units))) (cond-true (lit_eq a b) 0 (suc (place_of units a)) same) ∙ ap (λ (c : Lit). Some (c ∷ [])) (sym (lit_eq-true a b same))
          | inr differs ↦
              ap (slice_get (unit_clauses (b ∷ units))) (cond-false (lit_eq a b) 0 (suc (place_of units a)) differs)
              ∙ place_has units a (elim (or_cases _ _ has) [
                | inl here ↦ absurd (false≢true (sym differs ∙ here))
                | inr later ↦ later
              ])
        ]

pub place_found : (units : List Lit) (i : ℕ) (a d : Lit) → i < length units → has_literal (take i units) a ≡ false → lit_eq a (get_or units i d) ≡ true → place_of units a ≡ i
place_found [] i a d below none same = absurd (omega (arith, below))
place_found (b ∷ units) zero a d below none same = cond-true (lit_eq a b) 0 (suc (place_of units a)) same
place_found (b ∷ units) (suc i) a d below none same =
    let parts = or_neither _ _ none in
    cond-false (lit_eq a b) 0 (suc (place_of units a)) parts.0 ∙ ap suc (place_found units i a d (omega (arith, below)) parts.1 same)

pub place_none : (units : List Lit) (a : Lit) → has_literal units a ≡ false → place_of units a ≡ length units
place_none [] a none = refl
place_none (b ∷ units) a none =
    let parts = or_neither _ _ none in cond-false (lit_eq a b) 0 (suc (place_of units a)) parts.0 ∙ ap suc (place_none units a parts.1)

-- The units of a core, and then the hints of its clause.
pub core_units : (clauses : List (List Lit)) (units assumed core : List Lit) (hints : List ℕ) → has_opposites units ≡ false
    → ((a : Lit) → has_literal assumed a ≡ true → has_literal units a ≡ true) → ((a : Lit) → has_literal core a ≡ true → has_literal units a ≡ true)
    → hints_fault (clause_numbered (clauses ++ unit_clauses units)) (assumed ++ core) hints ≡ None
    → hints_fault (clause_numbered (clauses ++ unit_clauses units)) assumed (map (unit_number (length clauses) units) core ++ hints) ≡ None
core_units clauses units assumed [] hints apart_units own own_core follows =
    ap (λ xs. hints_fault (clause_numbered (clauses ++ unit_clauses units)) xs hints) (sym (append-nil assumed)) ∙ follows
core_units clauses units assumed (a ∷ core) hints apart_units own own_core follows =
    let here : has_literal units a ≡ true = own_core a (or_left _ _ (lit_eq-same a)) in
    unit_first (clause_numbered (clauses ++ unit_clauses units)) assumed (unit_number (length clauses) units a) a (map (unit_number (length clauses) units) core ++ hints)
    (number_place clauses units a here)
    (untrue _ (λ has. false≢true (sym apart_units ∙ any_has (λ (b : Lit). has_literal units (negation b)) units a here (own (negation a) has))))
    (core_units clauses units (assumed ++ a ∷ []) core hints apart_units
    (λ b has. elim (or_cases _ _ (sym (list_any-append (lit_eq b) assumed (a ∷ [])) ∙ has)) [
      | inl before ↦ own b before
      | inr last ↦ elim (or_cases _ _ last) [
        | inl same ↦ ap (has_literal units) (lit_eq-true b a same) ∙ here
        | inr later ↦ absurd (false≢true later)
      ]
    ])
    (λ b has. own_core b (or_right _ _ has))
    (ap (λ xs. hints_fault (clause_numbered (clauses ++ unit_clauses units)) xs hints) (append_assoc assumed (a ∷ []) core) ∙ follows))

-- Two opposite units.
pub opposite_units : (clauses : List (List Lit)) (units : List Lit) (a : Lit) → has_literal units a ≡ true → has_literal units (negation a) ≡ true
    → hints_fault (clause_numbered (clauses ++ unit_clauses units)) [] (map (unit_number (length clauses) units) (a ∷ negation a ∷ []) ++ []) ≡ None
opposite_units clauses units a one other =
    let at : ℕ → Option (List Lit) = clause_numbered (clauses ++ unit_clauses units) in
    unit_first at [] (unit_number (length clauses) units a) a (unit_number (length clauses) units (negation a) ∷ []) (number_place clauses units a one) refl
    (ap (λ o. with_clause o (unit_number (length clauses) units (negation a)) (λ clause. conflict_fault (open_literals (a ∷ []) clause))) (number_place clauses units (negation a) other)
    ∙ ap conflict_fault (cond-false (not (has_literal (a ∷ []) (negation (negation a)))) (negation a ∷ []) []
    (ap (λ b. not (has_literal (a ∷ []) b)) (negation_twice a) ∙ ap not (or_left _ _ (lit_eq-same a)))))

-- what refuses the units as assumptions refutes them as clauses
pub core_refutes : (clauses : List (List Lit)) (units core : List Lit) (hints : List ℕ) (traced : Learned) → has_opposites units ≡ false → Refuses clauses units traced
    → core ≡ map negation traced.clause → hints ≡ traced.hints
    → hints_fault (clause_numbered (clauses ++ unit_clauses units)) [] (map (unit_number (length clauses) units) core ++ hints) ≡ None
core_refutes clauses units core hints traced apart_units r is same =
    let core_own : (a : Lit) → has_literal (map negation traced.clause) a ≡ true → has_literal units a ≡ true =
    λ a has. all_has (has_literal units) (map negation traced.clause) a (part_negations units traced.clause r.among) has in
    ap (λ cs. hints_fault (clause_numbered (clauses ++ unit_clauses units)) [] (map (unit_number (length clauses) units) cs ++ hints)) is
    ∙ ap (λ hs. hints_fault (clause_numbered (clauses ++ unit_clauses units)) [] (map (unit_number (length clauses) units) (map negation traced.clause) ++ hs)) same
    ∙ core_units clauses units [] (map negation traced.clause) traced.hints apart_units (λ a has. absurd (false≢true has)) core_own
    (hints_more clauses (unit_clauses units) (map negation traced.clause) traced.hints r.hinted)

units_true : (v : ℕ → Bool) (units : List Lit) → cube_value v units ≡ true → clauses_value v (unit_clauses units) ≡ true
units_true v [] all = refl
units_true v (a ∷ units) all = let parts = and_parts _ _ all in and_from _ _ (or_left _ _ parts.0) (units_true v units parts.1)

-- a model under the units is one of them as clauses
pub model_of_units : (v : ℕ → Bool) (added : List (List Lit)) (units : List Lit) → IsModel added units v → clauses_value v (added ++ unit_clauses units) ≡ true
model_of_units v added units m = values_append v added (unit_clauses units) m.clauses (units_true v units m.assumed)
