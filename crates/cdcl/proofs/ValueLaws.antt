-- Laws of the values of all variables.
use Rattle.std.proofs.Common.{◌≡◌, ℕ, Bool, true, false, not, ◌&&◌, List, [], ◌∷◌, Option, Some, None, refl, ap, sym, ◌∙◌, inl, inr, eqb-true}
use Rattle.std.specs.Prelude.{is_some, nat_eq}
use Rattle.std.specs.List.{list_any, list_all}
use Rattle.std.proofs.lemmas.Bool.{false≢true, and_parts, and_from, or_cases, or_left, or_right}
use Rattle.proof_semantics.specs.declared.literals.Lit.{Lit}
use Rattle.cdcl_trail.specs.Trails.{Step, value_of}
use Rattle.cdcl_trail.specs.Propagation.{is_value, is_true, is_false, is_falsified, is_complete}
use Rattle.cdcl_trail.proofs.TrailLaws.{either, not-true, or_neither}
use Rattle.cdcl_log.specs.Variables.{is_over, are_over}
use Rattle.cdcl.specs.Searching.{is_satisfied}

and_first : (a b : Bool) → a ≡ true → (a && b) ≡ b
and_first true b e = refl
and_first false b e = absurd (false≢true e)

valued_at : (steps : List Step) (vars : List ℕ) (v : ℕ) → list_all (λ w. is_some (value_of steps w)) vars ≡ true → list_any (nat_eq v) vars ≡ true → is_some (value_of steps v) ≡ true
valued_at steps [] v all has = absurd (false≢true has)
valued_at steps (x ∷ vars) v all has =
    let parts = and_parts _ _ all in
    elim (or_cases _ _ has) [
      | inl here ↦ ap (λ w. is_some (value_of steps w)) (eqb-true v x here) ∙ parts.0
      | inr later ↦ valued_at steps vars v parts.1 later
    ]

value_wanted : (o : Option Bool) (b : Bool) → is_some o ≡ true → is_value o (not b) ≡ false → is_value o b ≡ true
value_wanted None b some e = absurd (false≢true some)
value_wanted (Some true) true some e = refl
value_wanted (Some false) true some e = absurd (false≢true (sym e))
value_wanted (Some true) false some e = absurd (false≢true (sym e))
value_wanted (Some false) false some e = refl

clause_satisfied : (steps : List Step) (vars : List ℕ) (clause : List Lit) → list_all (λ w. is_some (value_of steps w)) vars ≡ true → is_over vars clause ≡ true
    → is_falsified steps clause ≡ false → list_any (is_true steps) clause ≡ true
clause_satisfied steps vars [] all over open_one = absurd (false≢true (sym open_one))
clause_satisfied steps vars (a ∷ clause) all over open_one =
    let parts = and_parts _ _ over in
    elim (either (is_false steps a)) [
      | inl falsified ↦ or_right _ _ (clause_satisfied steps vars clause all parts.1 (sym (and_first _ _ falsified) ∙ open_one))
      | inr stands ↦ or_left _ _ (value_wanted (value_of steps a.var) a.positive (valued_at steps vars a.var all parts.0) stands)
    ]

-- Where no clause is unit or false and each variable has a value, each clause has a true literal.
pub full_satisfied : (steps : List Step) (vars : List ℕ) (clauses : List (List Lit)) → list_all (λ w. is_some (value_of steps w)) vars ≡ true → are_over vars clauses ≡ true
    → is_complete clauses steps ≡ true → is_satisfied clauses steps ≡ true
full_satisfied steps vars [] all over complete = refl
full_satisfied steps vars (c ∷ clauses) all over complete =
    let parts = and_parts _ _ complete in
    let overs = and_parts _ _ over in
    and_from _ _ (clause_satisfied steps vars c all overs.0 (or_neither _ _ (not-true _ parts.0)).0) (full_satisfied steps vars clauses all overs.1 parts.1)
