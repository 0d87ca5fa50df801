-- Literals that ascend below a bound, and are positive from it on, have no opposites.
use Rattle.std.proofs.Common.{◌≡◌, ℕ, ◌<◌, ◌≤◌, Bool, true, false, not, cond, ◌&&◌, ◌||◌, List, [], ◌∷◌}
use Rattle.std.proofs.Common.{refl, sym, ap, subst, ◌∙◌, inl, inr, nat_lt, arith}
use Rattle.std.specs.List.{list_any}
use Rattle.std.proofs.lemmas.Bool.{false≢true, and_parts, or_left, or_right, or_cases, cases_Bool, ltb-true, ltb-false}
use Rattle.proof_semantics.specs.declared.literals.Lit.{Lit}
use Rattle.proof_semantics.specs.Clauses.{lit_eq, negation, has_literal, has_opposites}
use Rattle.proof_semantics.proofs.LiteralLaws.{lit_eq-true, lit_eq-same}
use Rattle.cdcl.specs.Ascending.{ascends_below}

-- what the first literal tells, and what is left
record IsFirst (bound last : ℕ) (l : Lit) (literals : List Lit) : Type 0 where
  low : l.var < bound → last < l.var
  high : bound ≤ l.var → l.positive ≡ true
  next : ℕ
  rest : ascends_below bound next literals ≡ true
  above : last ≤ next
  behind : l.var < bound → next ≡ l.var

first_of : (bound last : ℕ) (l : Lit) (literals : List Lit) (b : Bool) → nat_lt l.var bound ≡ b
    → cond b (nat_lt last l.var && ascends_below bound l.var literals) (l.positive && ascends_below bound last literals) ≡ true
    → IsFirst bound last l literals
first_of bound last l literals true e h =
    let below : l.var < bound = ltb-true l.var bound e in
    let parts = and_parts (nat_lt last l.var) (ascends_below bound l.var literals) h in
    let up : last < l.var = ltb-true last l.var parts.0 in
    record {
      low = λ x. up;
      high = λ x. absurd (omega arith);
      next = l.var;
      rest = parts.1;
      above = omega arith;
      behind = λ x. refl;
    }
first_of bound last l literals false e h =
    let above : bound ≤ l.var = ltb-false l.var bound e in
    let parts = and_parts l.positive (ascends_below bound last literals) h in
    record {
      low = λ x. absurd (omega arith);
      high = λ x. parts.0;
      next = last;
      rest = parts.1;
      above = omega arith;
      behind = λ x. absurd (omega arith);
    }

first : (bound last : ℕ) (l : Lit) (literals : List Lit) → ascends_below bound last (l ∷ literals) ≡ true
    → IsFirst bound last l literals
first bound last l literals h = first_of bound last l literals (nat_lt l.var bound) refl h

later : (bound last : ℕ) (literals : List Lit) (a : Lit) → ascends_below bound last literals ≡ true
    → has_literal literals a ≡ true → a.var < bound → last < a.var
later bound last [] a h there below = absurd (false≢true there)
later bound last (l ∷ literals) a h there below =
    let f = first bound last l literals h in
    elim (or_cases (lit_eq a l) (has_literal literals a) there) [
      | inl t ↦
          let is : a ≡ l = lit_eq-true a l t in
          subst (λ x. last < x.var) (sym is) (f.low (subst (λ x. x.var < bound) is below))
      | inr t ↦
          let rest : f.next < a.var = later bound f.next literals a f.rest t below in
          let up : last ≤ f.next = f.above in
          omega arith
    ]

positive_above : (bound last : ℕ) (literals : List Lit) (a : Lit) → ascends_below bound last literals ≡ true
    → has_literal literals a ≡ true → bound ≤ a.var → a.positive ≡ true
positive_above bound last [] a h there above = absurd (false≢true there)
positive_above bound last (l ∷ literals) a h there above =
    let f = first bound last l literals h in
    elim (or_cases (lit_eq a l) (has_literal literals a) there) [
      | inl t ↦
          let is : a ≡ l = lit_eq-true a l t in
          ap (λ (x : Lit). x.positive) is ∙ f.high (subst (λ x. bound ≤ x.var) is above)
      | inr t ↦ positive_above bound f.next literals a f.rest t above
    ]

-- two literals of one variable below the bound are one
same_below : (bound last : ℕ) (literals : List Lit) (a b : Lit) → ascends_below bound last literals ≡ true
    → has_literal literals a ≡ true → has_literal literals b ≡ true → a.var ≡ b.var → a.var < bound → a.positive ≡ b.positive
same_below bound last [] a b h here there e below = absurd (false≢true here)
same_below bound last (l ∷ literals) a b h here there e below =
    let f = first bound last l literals h in
    elim (or_cases (lit_eq a l) (has_literal literals a) here) [
      | inl s ↦ elim (or_cases (lit_eq b l) (has_literal literals b) there) [
        | inl t ↦ ap (λ (x : Lit). x.positive) (lit_eq-true a l s ∙ sym (lit_eq-true b l t))
        | inr t ↦
            let is : a.var ≡ l.var = ap (λ (x : Lit). x.var) (lit_eq-true a l s) in
            let next : f.next ≡ l.var = f.behind (omega arith) in
            let up : f.next < b.var = later bound f.next literals b f.rest t (omega arith) in
            absurd (omega arith)
      ]
      | inr s ↦ elim (or_cases (lit_eq b l) (has_literal literals b) there) [
        | inl t ↦
            let is : b.var ≡ l.var = ap (λ (x : Lit). x.var) (lit_eq-true b l t) in
            let next : f.next ≡ l.var = f.behind (omega arith) in
            let up : f.next < a.var = later bound f.next literals a f.rest s below in
            absurd (omega arith)
        | inr t ↦ same_below bound f.next literals a b f.rest s t e below
      ]
    ]

turned : (b : Bool) → b ≡ not b → ⊥
turned true e = false≢true (sym e)
turned false e = false≢true e

none_opposite : (bound last : ℕ) (literals : List Lit) (a : Lit) → ascends_below bound last literals ≡ true
    → has_literal literals a ≡ true → has_literal literals (negation a) ≡ true → ⊥
none_opposite bound last literals a h here there = elim (cases_Bool (nat_lt a.var bound)) [
  | inl t ↦ turned a.positive (same_below bound last literals a (negation a) h here there refl (ltb-true a.var bound t))
  | inr t ↦
      let above : bound ≤ a.var = ltb-false a.var bound t in
      turned a.positive
      (positive_above bound last literals a h here above ∙ sym (positive_above bound last literals (negation a) h there above))
]

none_any : (whole literals : List Lit)
    → ((a : Lit) → has_literal literals a ≡ true → has_literal whole (negation a) ≡ true → ⊥)
    → list_any (λ a. has_literal whole (negation a)) literals ≡ false
none_any whole [] f = refl
none_any whole (a ∷ literals) f = elim (cases_Bool (has_literal whole (negation a))) [
  | inl t ↦ absurd (f a (or_left _ _ (lit_eq-same a)) t)
  | inr t ↦
      ap (λ x. x || list_any (λ b. has_literal whole (negation b)) literals) t
      ∙ none_any whole literals (λ b there. f b (or_right _ _ there))
]

pub ascending_apart : (bound last : ℕ) (literals : List Lit) → ascends_below bound last literals ≡ true
    → has_opposites literals ≡ false
ascending_apart bound last literals h =
    none_any literals literals (λ a here there. none_opposite bound last literals a h here there)
