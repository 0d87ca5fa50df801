-- Laws of tests over lists, of values, and of unit clauses.
use Rattle.std.proofs.Common.{◌≡◌, Bool, true, false, not, ◌||◌, List, [], ◌∷◌, Option, Some, None, refl, ap, sym, ◌∙◌, inl, inr}
use Rattle.std.specs.Prelude.{is_some}
use Rattle.std.specs.List.{list_any, list_all}
use Rattle.std.proofs.lemmas.Bool.{false≢true, and_parts, or_cases, or_left, or_right}
use Rattle.std.proofs.lemmas.Option.{none-some}
use Rattle.proof_semantics.specs.Clauses.{lit_eq, has_literal}
use Rattle.proof_semantics.specs.declared.literals.Lit.{Lit}
use Rattle.proof_semantics.proofs.LiteralLaws.{lit_eq-true, lit_eq-same}
use Rattle.cdcl_trail.specs.Trails.{Step, value_of}
use Rattle.cdcl_trail.specs.Propagation.{is_value, is_true, is_false, is_unit_for}

-- Tests over lists.

pub all_has : (f : Lit → Bool) (xs : List Lit) (a : Lit) → list_all f xs ≡ true → has_literal xs a ≡ true → f a ≡ true
all_has f [] a all has = absurd (false≢true has)
all_has f (b ∷ xs) a all has =
    let parts = and_parts _ _ all in
    elim (or_cases _ _ has) [
      | inl same ↦ ap f (lit_eq-true a b same) ∙ parts.0
      | inr later ↦ all_has f xs a parts.1 later
    ]

pub any_gives : (f : Lit → Bool) (xs : List Lit) → list_any f xs ≡ true → (a : Lit) × (has_literal xs a ≡ true) × (f a ≡ true)
any_gives f [] any = absurd (false≢true any)
any_gives f (b ∷ xs) any =
    elim (or_cases _ _ any) [
      | inl here ↦ (b, or_left _ _ (lit_eq-same b), here)
      | inr later ↦ let found = any_gives f xs later in (found.0, or_right _ _ found.1, found.2)
    ]

pub any_has : (f : Lit → Bool) (xs : List Lit) (a : Lit) → has_literal xs a ≡ true → f a ≡ true → list_any f xs ≡ true
any_has f [] a has holds = absurd (false≢true has)
any_has f (b ∷ xs) a has holds =
    elim (or_cases _ _ has) [
      | inl same ↦ or_left _ _ (ap f (sym (lit_eq-true a b same)) ∙ holds)
      | inr later ↦ or_right _ _ (any_has f xs a later holds)
    ]

-- Values.

-- no value is both of two
pub one_value : (value : Option Bool) (b : Bool) → is_value value b ≡ true → is_value value (not b) ≡ true → ⊥
one_value None b e f = false≢true e
one_value (Some true) true e f = false≢true f
one_value (Some true) false e f = false≢true e
one_value (Some false) true e f = false≢true e
one_value (Some false) false e f = false≢true f

pub no_value : (value : Option Bool) (b : Bool) → value ≡ None → is_value value b ≡ true → ⊥
no_value None b e f = false≢true f
no_value (Some v) b e f = none-some v (sym e)

pub unvalued : (value : Option Bool) → not (is_some value) ≡ true → value ≡ None
unvalued None e = refl
unvalued (Some v) e = absurd (false≢true e)

pub unvalued_test : (value : Option Bool) → value ≡ None → not (is_some value) ≡ true
unvalued_test None e = refl
unvalued_test (Some v) e = absurd (none-some v (sym e))

-- What clauses say of their literals.

pub untrue : (b : Bool) → (b ≡ true → ⊥) → b ≡ false
untrue true no_way = absurd (no_way refl)
untrue false no_way = refl

-- what a unit clause says of one of its literals without a value, and of one that is true
unit_open : (steps : List Step) (clause : List Lit) (u b : Lit) → is_unit_for steps clause u ≡ true → has_literal clause b ≡ true → value_of steps b.var ≡ None → u ≡ b
unit_open steps clause u b unit has none =
    let parts = and_parts _ _ unit in
    let rest = and_parts _ _ parts.1 in
    elim (or_cases _ _ (all_has (λ c. lit_eq u c || is_false steps c) clause b rest.1 has)) [
      | inl same ↦ lit_eq-true u b same
      | inr falsified ↦ absurd (no_value _ _ none falsified)
    ]

pub unit_true : (steps : List Step) (clause : List Lit) (u b : Lit) → is_unit_for steps clause u ≡ true → has_literal clause b ≡ true → is_true steps b ≡ true → ⊥
unit_true steps clause u b unit has holds =
    let parts = and_parts _ _ unit in
    let rest = and_parts _ _ parts.1 in
    elim (or_cases _ _ (all_has (λ c. lit_eq u c || is_false steps c) clause b rest.1 has)) [
      | inl same ↦ no_value _ _ (ap (λ (c : Lit). value_of steps c.var) (sym (lit_eq-true u b same)) ∙ unvalued _ rest.0) holds
      | inr falsified ↦ one_value _ _ holds falsified
    ]

-- every other literal of a unit clause is false
pub unit_others : (steps : List Step) (clause : List Lit) (u a : Lit) → is_unit_for steps clause u ≡ true → has_literal clause a ≡ true → lit_eq u a ≡ false → is_false steps a ≡ true
unit_others steps clause u a unit has apart =
    let parts = and_parts _ _ unit in
    let rest = and_parts _ _ parts.1 in
    elim (or_cases _ _ (all_has (λ c. lit_eq u c || is_false steps c) clause a rest.1 has)) [
      | inl same ↦ absurd (false≢true (sym apart ∙ same))
      | inr falsified ↦ falsified
    ]
