-- The law of clauses that are retired.
use Rattle.std.proofs.Common.{◌≡◌, ℕ, Bool, true, false, not, ◌&&◌, eqb, List, [], ◌∷◌, refl, ap, sym, ◌∙◌, inl, inr, rules, eqb-true, eq-eqb}
use Rattle.std.specs.List.{list_all}
use Rattle.std.proofs.lemmas.Bool.{false≢true, and_parts, and_from, or_cases, or_left, or_right, cond-true, cond-false}
use Rattle.proof_semantics.specs.Clauses.{bool_eq, lit_eq, negation, has_literal, literal_value, clause_value, cube_value, clauses_value}
use Rattle.proof_semantics.specs.declared.literals.Lit.{Lit}
use Rattle.proof_semantics.proofs.LiteralLaws.{bool_eq-same, clause_value-has}
use Rattle.cdcl_trail.proofs.TrailLaws.{either, not-true, not-false, or_neither}
use Rattle.cdcl.specs.Retiring.{without_literal, with_true, RetiredChangeNothing}
use Rattle.cdcl.specs.Solving.{IsModel}

-- the literal is true where it was made so
made_true : (a : Lit) (v : ℕ → Bool) → literal_value (with_true a v) a ≡ true
made_true a v = ap (bool_eq a.positive) (cond-true (eqb a.var a.var) a.positive (v a.var) (same a.var)) ∙ bool_eq-same a.positive
  where
    same : (n : ℕ) → eqb n n ≡ true
    same n = search rules

-- a literal of another variable keeps its value
left_alone : (a b : Lit) (v : ℕ → Bool) → eqb b.var a.var ≡ false → literal_value (with_true a v) b ≡ literal_value v b
left_alone a b v e = ap (bool_eq b.positive) (cond-false (eqb b.var a.var) a.positive (v b.var) e)

other_sign : (p q : Bool) → bool_eq (not p) q ≡ false → bool_eq q p ≡ true
other_sign true true e = refl
other_sign true false e = absurd (false≢true (sym e))
other_sign false true e = absurd (false≢true (sym e))
other_sign false false e = refl

and_second : (b c : Bool) → b ≡ true → (b && c) ≡ false → c ≡ false
and_second true c e f = f
and_second false c e f = absurd (false≢true e)

-- a literal other than the negation stays true
stays_true : (a b : Lit) (v : ℕ → Bool) → lit_eq (negation a) b ≡ false → literal_value v b ≡ true → literal_value (with_true a v) b ≡ true
stays_true a b v differs holds =
    elim (either (eqb b.var a.var)) [
      | inl same ↦
          ap (bool_eq b.positive) (cond-true (eqb b.var a.var) a.positive (v b.var) same)
          ∙ other_sign a.positive b.positive (and_second (eqb a.var b.var) (bool_eq (not a.positive) b.positive) (eq-eqb a.var b.var (sym (eqb-true b.var a.var same))) differs)
      | inr apart ↦ left_alone a b v apart ∙ holds
    ]

clause_stays : (a : Lit) (v : ℕ → Bool) (clause : List Lit) → has_literal clause (negation a) ≡ false → clause_value v clause ≡ true → clause_value (with_true a v) clause ≡ true
clause_stays a v [] none holds = holds
clause_stays a v (b ∷ clause) none holds =
    let parts = or_neither _ _ none in
    elim (or_cases _ _ holds) [
      | inl here ↦ or_left _ _ (stays_true a b v parts.0 here)
      | inr later ↦ or_right _ _ (clause_stays a v clause parts.1 later)
    ]

kept_here : (a : Lit) (c : List Lit) (clauses : List (List Lit)) → has_literal c a ≡ false → without_literal a (c ∷ clauses) ≡ c ∷ without_literal a clauses
kept_here a c clauses e = cond-true (not (has_literal c a)) (c ∷ without_literal a clauses) (without_literal a clauses) (not-false _ e)

left_here : (a : Lit) (c : List Lit) (clauses : List (List Lit)) → has_literal c a ≡ true → without_literal a (c ∷ clauses) ≡ without_literal a clauses
left_here a c clauses e = cond-false (not (has_literal c a)) (c ∷ without_literal a clauses) (without_literal a clauses) (ap not e)

all_true : (a : Lit) (v : ℕ → Bool) (clauses : List (List Lit)) → list_all (λ clause. not (has_literal clause (negation a))) clauses ≡ true
    → clauses_value v (without_literal a clauses) ≡ true → clauses_value (with_true a v) clauses ≡ true
all_true a v [] none holds = refl
all_true a v (c ∷ clauses) none holds =
    let parts = and_parts _ _ none in
    elim (either (has_literal c a)) [
      | inl has ↦
          and_from _ _ (clause_value-has (with_true a v) c a (made_true a v) has)
          (all_true a v clauses parts.1 (ap (clauses_value v) (sym (left_here a c clauses has)) ∙ holds))
      | inr lacks ↦
          let both = and_parts _ _ (ap (clauses_value v) (sym (kept_here a c clauses lacks)) ∙ holds) in
          and_from _ _ (clause_stays a v c (not-true _ parts.0) both.0) (all_true a v clauses parts.1 both.1)
    ]

fewer_true : (a : Lit) (v : ℕ → Bool) (clauses : List (List Lit)) → clauses_value v clauses ≡ true → clauses_value v (without_literal a clauses) ≡ true
fewer_true a v [] holds = refl
fewer_true a v (c ∷ clauses) holds =
    let parts = and_parts _ _ holds in
    let rest = fewer_true a v clauses parts.1 in
    elim (either (has_literal c a)) [
      | inl has ↦ ap (clauses_value v) (left_here a c clauses has) ∙ rest
      | inr lacks ↦ ap (clauses_value v) (kept_here a c clauses lacks) ∙ and_from _ _ parts.0 rest
    ]

assumed_still : (a : Lit) (v : ℕ → Bool) (assumptions : List Lit) → list_all (λ (b : Lit). not (eqb b.var a.var)) assumptions ≡ true
    → cube_value v assumptions ≡ true → cube_value (with_true a v) assumptions ≡ true
assumed_still a v [] others holds = refl
assumed_still a v (b ∷ assumptions) others holds =
    let parts = and_parts _ _ others in
    let both = and_parts _ _ holds in
    and_from _ _ (left_alone a b v (not-true _ parts.0) ∙ both.0) (assumed_still a v assumptions parts.1 both.1)

pub retired_change_nothing : RetiredChangeNothing
retired_change_nothing a clauses assumptions none others =
    let fewer : (v : ℕ → Bool) → IsModel clauses assumptions v → IsModel (without_literal a clauses) assumptions v =
    λ v m. record { clauses = fewer_true a v clauses m.clauses; assumed = m.assumed } in
    let more : (v : ℕ → Bool) → IsModel (without_literal a clauses) assumptions v → IsModel clauses assumptions (with_true a v) =
    λ v m. record { clauses = all_true a v clauses none m.clauses; assumed = assumed_still a v assumptions others m.assumed } in
    record {
      fewer = fewer;
      more = more;
      refused = (λ no v m. no (with_true a v) (more v m), λ no v m. no v (fewer v m));
    }
