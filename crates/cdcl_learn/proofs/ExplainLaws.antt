-- Laws of the hints that explain a clause.
use Rattle.std.proofs.Common.{◌≡◌, ℕ, Bool, true, false, not, cond, List, [], ◌∷◌, ◌++◌, map, Some, None, refl, ap, sym, ◌∙◌, ◌⊎◌, inl, inr, arith}
use Rattle.std.specs.List.{list_all}
use Rattle.std.proofs.lemmas.Bool.{false≢true, and_parts, and_from, or_cases, or_left, or_right, cond-true}
use Rattle.proof_semantics.specs.Clauses.{lit_eq, negation, has_literal}
use Rattle.proof_semantics.specs.Propagation as along
use Rattle.proof_semantics.specs.Propagation.{open_literals, only_literal, with_clause, with_unit, conflict_fault, hints_fault}
use Rattle.proof_semantics.specs.declared.literals.Lit.{Lit}
use Rattle.proof_semantics.proofs.LiteralLaws.{lit_eq-true, lit_eq-same, has_literal-push, negation_twice}
use Rattle.cdcl_trail.specs.Trails.{Step, value_of}
use Rattle.cdcl_trail.specs.Propagation.{is_true, is_false}
use Rattle.cnf.specs.Clauses.{clause_numbered}
use Rattle.cdcl_trail.proofs.TrailLaws.{either}
use Rattle.cdcl_trail.proofs.ScanLaws.{one_value, untrue}
use Rattle.cdcl_learn.specs.Walking.{Explains}

abbrev Has : List Lit → Lit → Type 0
Has lits a = has_literal lits a ≡ true

-- What a clause leaves.

open_none : (assumed clause : List Lit) → ((a : Lit) → Has clause a → along.is_false assumed a ≡ true) → open_literals assumed clause ≡ []
open_none assumed [] each = refl
open_none assumed (a ∷ clause) each =
    ap (λ b. cond (not b) (a ∷ open_literals assumed clause) (open_literals assumed clause)) (each a (or_left _ _ (lit_eq-same a)))
    ∙ open_none assumed clause (λ b has. each b (or_right _ _ has))

-- the literal is the only one that is not false
abbrev Only : List Lit → List Lit → Lit → Type 0
Only assumed clause u = (a : Lit) → Has clause a → (lit_eq u a ≡ true) ⊎ (along.is_false assumed a ≡ true)

open_same : (assumed clause : List Lit) (u : Lit) → Only assumed clause u → list_all (lit_eq u) (open_literals assumed clause) ≡ true
open_same assumed [] u each = refl
open_same assumed (a ∷ clause) u each =
    let rest = open_same assumed clause u (λ b has. each b (or_right _ _ has)) in
    elim (either (along.is_false assumed a)) [
      | inl falsified ↦ ap (λ b. list_all (lit_eq u) (cond (not b) (a ∷ open_literals assumed clause) (open_literals assumed clause))) falsified ∙ rest
      | inr open_here ↦
          ap (λ b. list_all (lit_eq u) (cond (not b) (a ∷ open_literals assumed clause) (open_literals assumed clause))) open_here
          ∙ elim (each a (or_left _ _ (lit_eq-same a))) [
            | inl same ↦ and_from _ _ same rest
            | inr falsified ↦ absurd (false≢true (sym open_here ∙ falsified))
          ]
    ]

open_has-at : (assumed clause : List Lit) (a u : Lit) (b : Bool) → along.is_false assumed a ≡ b → Has (a ∷ clause) u → along.is_false assumed u ≡ false
    → (Has clause u → Has (open_literals assumed clause) u) → Has (cond (not b) (a ∷ open_literals assumed clause) (open_literals assumed clause)) u
open_has-at assumed clause a u true falsified has unfalsified later =
    elim (or_cases (lit_eq u a) (has_literal clause u) has) [
      | inl same ↦ absurd (false≢true (sym unfalsified ∙ ap (along.is_false assumed) (lit_eq-true u a same) ∙ falsified))
      | inr behind ↦ later behind
    ]
open_has-at assumed clause a u false open_here has unfalsified later =
    elim (or_cases (lit_eq u a) (has_literal clause u) has) [
      | inl same ↦ or_left (lit_eq u a) (has_literal (open_literals assumed clause) u) same
      | inr behind ↦ or_right (lit_eq u a) (has_literal (open_literals assumed clause) u) (later behind)
    ]

open_has : (assumed clause : List Lit) (u : Lit) → Has clause u → along.is_false assumed u ≡ false → Has (open_literals assumed clause) u
open_has assumed [] u has unfalsified = absurd (false≢true has)
open_has assumed (a ∷ clause) u has unfalsified =
    open_has-at assumed clause a u (along.is_false assumed a) refl has unfalsified (λ later. open_has assumed clause u later unfalsified)

only_from : (lits : List Lit) (u : Lit) → list_all (lit_eq u) lits ≡ true → Has lits u → only_literal lits ≡ Some u
only_from [] u all has = absurd (false≢true has)
only_from (a ∷ lits) u all has =
    let parts = and_parts _ _ all in
    let same : u ≡ a = lit_eq-true u a parts.0 in
    cond-true (list_all (lit_eq a) lits) (Some a) None (ap (λ b. list_all (lit_eq b) lits) (sym same) ∙ parts.1) ∙ ap (λ b. Some b) (sym same)

-- A false clause explains itself.
pub explains_conflict : (clauses : List (List Lit)) (steps : List Step) (number : ℕ) (held clause : List Lit) → clause_numbered clauses number ≡ Some held
    → ((a : Lit) → has_literal clause a ≡ has_literal held a) → Explains clauses steps clause (number ∷ [])
explains_conflict clauses steps number held clause is same = record {
  some = omega arith;
  ends = λ assumed holds covers.
      ap (λ found. with_clause found number (λ c. conflict_fault (open_literals assumed c))) is
      ∙ ap conflict_fault (open_none assumed held (λ a has. covers a (same a ∙ has)));
}

not_both : (steps : List Step) (a : Lit) → is_true steps a ≡ true → is_true steps (negation a) ≡ true → ⊥
not_both steps a e f = one_value (value_of steps a.var) a.positive e f

push_has : (assumed : List Lit) (u a : Lit) → Has assumed a → Has (assumed ++ u ∷ []) a
push_has assumed u a has = has_literal-push assumed u a ∙ or_left _ _ has

push_last : (assumed : List Lit) (u a : Lit) → lit_eq a u ≡ true → Has (assumed ++ u ∷ []) a
push_last assumed u a same = has_literal-push assumed u a ∙ or_right _ _ same

-- what a clause is left with and the hints behind, where it explains the rest
explains_at : (clauses : List (List Lit)) (steps : List Step) (number : ℕ) (reason clause more : List Lit) (u : Lit) (next : ℕ) (hints : List ℕ)
    → clause_numbered clauses number ≡ Some reason → is_true steps u ≡ true → Has reason u
    → ((a : Lit) → Has reason a → (lit_eq u a ≡ true) ⊎ Has more a)
    → ((a : Lit) → Has clause a → (lit_eq a (negation u) ≡ true) ⊎ Has more a)
    → Explains clauses steps clause (next ∷ hints)
    → (assumed : List Lit) → ((a : Lit) → Has assumed a → is_true steps a ≡ true) → ((a : Lit) → Has more a → Has assumed (negation a))
    → hints_fault (clause_numbered clauses) assumed (number ∷ next ∷ hints) ≡ None
explains_at clauses steps number reason clause more u next hints is holds has_u from_reason from_clause explained assumed true_all covers =
    let at = clause_numbered clauses in
    let unfalsified : along.is_false assumed u ≡ false = untrue _ (λ e. not_both steps u holds (true_all (negation u) e)) in
    let only : Only assumed reason u = λ a has. elim (from_reason a has) [ inl same ↦ inl same | inr later ↦ inr (covers a later) ] in
    let left : only_literal (open_literals assumed reason) ≡ Some u =
    only_from (open_literals assumed reason) u (open_same assumed reason u only) (open_has assumed reason u has_u unfalsified) in
    ap (λ found. with_clause found number (λ c. with_unit (only_literal (open_literals assumed c)) number (λ a. hints_fault at (assumed ++ a ∷ []) (next ∷ hints)))) is
    ∙ ap (λ found. with_unit found number (λ a. hints_fault at (assumed ++ a ∷ []) (next ∷ hints))) left
    ∙ explained.ends (assumed ++ u ∷ [])
    (λ a has. elim (or_cases _ _ (sym (has_literal-push assumed u a) ∙ has)) [
      | inl before ↦ true_all a before
      | inr same ↦ ap (is_true steps) (lit_eq-true a u same) ∙ holds
    ])
    (λ a has. elim (from_clause a has) [
      | inl same ↦
          let is_negation : negation a ≡ u = ap negation (lit_eq-true a (negation u) same) ∙ negation_twice u in
          push_last assumed u (negation a) (ap (λ b. lit_eq b u) is_negation ∙ lit_eq-same u)
      | inr later ↦ push_has assumed u (negation a) (covers a later)
    ])

-- A resolvent is explained by the reason's number in front.
pub explains_resolvent : (clauses : List (List Lit)) (steps : List Step) (number : ℕ) (reason clause more : List Lit) (u : Lit) (hints : List ℕ)
    → clause_numbered clauses number ≡ Some reason → is_true steps u ≡ true → Has reason u
    → ((a : Lit) → Has reason a → (lit_eq u a ≡ true) ⊎ Has more a)
    → ((a : Lit) → Has clause a → (lit_eq a (negation u) ≡ true) ⊎ Has more a)
    → Explains clauses steps clause hints → Explains clauses steps more (number ∷ hints)
explains_resolvent clauses steps number reason clause more u [] is holds has_u from_reason from_clause explained = absurd (omega (arith, explained.some))
explains_resolvent clauses steps number reason clause more u (next ∷ hints) is holds has_u from_reason from_clause explained = record {
  some = omega arith;
  ends = explains_at clauses steps number reason clause more u next hints is holds has_u from_reason from_clause explained;
}

has_negations : (clause : List Lit) (a : Lit) → Has clause a → Has (map negation clause) (negation a)
has_negations [] a has = absurd (false≢true has)
has_negations (b ∷ clause) a has =
    elim (or_cases _ _ has) [
      | inl same ↦ or_left _ _ (ap (λ c. lit_eq (negation a) (negation c)) (sym (lit_eq-true a b same)) ∙ lit_eq-same (negation a))
      | inr later ↦ or_right _ _ (has_negations clause a later)
    ]

of_negations : (clause : List Lit) (b : Lit) → Has (map negation clause) b → (a : Lit) × Has clause a × (b ≡ negation a)
of_negations [] b has = absurd (false≢true has)
of_negations (c ∷ clause) b has =
    elim (or_cases _ _ has) [
      | inl same ↦ (c, or_left _ _ (lit_eq-same c), lit_eq-true b (negation c) same)
      | inr later ↦ let found = of_negations clause b later in (found.0, or_right _ _ found.1, found.2)
    ]

-- The hints that explain a false clause are those of its line.
pub explained_ends : (clauses : List (List Lit)) (steps : List Step) (clause : List Lit) (hints : List ℕ) → Explains clauses steps clause hints
    → ((a : Lit) → Has clause a → is_false steps a ≡ true) → hints_fault (clause_numbered clauses) (map negation clause) hints ≡ None
explained_ends clauses steps clause hints explained falsified =
    explained.ends (map negation clause)
    (λ b has. let found = of_negations clause b has in ap (is_true steps) found.2 ∙ falsified found.0 found.1)
    (has_negations clause)
