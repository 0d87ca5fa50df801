-- Clauses of the base that come.
use Rattle.std.proofs.Common.{◌≡◌, ℕ, zero, suc, Bool, true, List, [], ◌∷◌, ◌++◌, take, refl, sym, ap, ◌∙◌}
use Rattle.std.proofs.lemmas.Bool.{and_parts, and_from}
use Rattle.proof_semantics.specs.declared.literals.Lit.{Lit}
use Rattle.proof_semantics.specs.Clauses.{clause_value, clauses_value}
use Rattle.cnf_unroll.proofs.Truth.{both, together}
use Rattle.ic3.specs.SteppingInside.{Grows}

taken : (v : ℕ → Bool) (base : List (List Lit)) (i : ℕ) → clauses_value v base ≡ true → clauses_value v (take i base) ≡ true
taken v [] zero h = refl
taken v [] (suc i) h = refl
taken v (clause ∷ base) zero h = refl
taken v (clause ∷ base) (suc i) h =
    let parts = and_parts (clause_value v clause) (clauses_value v base) h in
    and_from (clause_value v clause) (clauses_value v (take i base)) parts.0 (taken v base i parts.1)

-- the first of them
pub grows_take : (base old new : List (List Lit)) (i : ℕ) → new ≡ old ++ take i base → Grows base old new
grows_take base old new i is = record {
  fewer = λ v h. (both v old (take i base) (ap (clauses_value v) (sym is) ∙ h)).0;
  more = λ v all h. ap (clauses_value v) is ∙ together v old (take i base) h (taken v base i all);
}
