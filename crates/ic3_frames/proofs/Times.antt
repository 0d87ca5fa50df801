-- How often a clause stands in lists.
use Rattle.std.proofs.Common.{◌≡◌, ℕ, zero, suc, ◌+◌, ◌≤◌, Bool, true, false, not, ◌||◌, List, [], ◌∷◌, ◌++◌, filter, refl, sym, ap, ◌∙◌, inl, inr, if◌then◌else◌, arith, zero-add}
use Rattle.std.proofs.lemmas.Bool.{cases_Bool, false≢true, and_from}
use Rattle.proof_semantics.specs.declared.literals.Lit.{Lit}
use Rattle.proof_semantics.specs.Clauses.{lit_eq, has_literal, is_part}
use Rattle.proof_semantics.proofs.LiteralLaws.{lit_eq-true, lit_eq-same}
use Rattle.ic3_frames.specs.Frames.{same_clause, has_clause, stays}
use Rattle.ic3_frames.specs.Kept.{times}

pub same-same : (c : List Lit) → same_clause c c ≡ true
same-same [] = refl
same-same (a ∷ c) = rw (lit_eq-same a) (same-same c)

pub same-is : (c d : List Lit) → same_clause c d ≡ true → c ≡ d
same-is [] [] e = refl
same-is [] (b ∷ d) e = absurd (false≢true e)
same-is (a ∷ c) [] e = absurd (false≢true e)
same-is (a ∷ c) (b ∷ d) e =
    elim (cases_Bool (lit_eq a b)) [
      | inl here ↦
          let first : a ≡ b = lit_eq-true a b here in
          let rest : c ≡ d = same-is c d (rw here at e) in
          cc
      | inr apart ↦ absurd (false≢true (rw apart at e))
    ]

pub times-append : (c : List Lit) (xs ys : List (List Lit)) → times c (xs ++ ys) ≡ times c xs + times c ys
times-append c [] ys = sym (zero-add (times c ys))
times-append c (x ∷ xs) ys =
    let h = times-append c xs ys in
    omega arith

pub times-none : (c : List Lit) (xs : List (List Lit)) → has_clause xs c ≡ false → times c xs ≡ 0
times-none c [] e = refl
times-none c (x ∷ xs) e =
    elim (cases_Bool (same_clause c x)) [
      | inl here ↦ absurd (false≢true (sym (rw here at e)))
      | inr apart ↦ rw apart (let h = times-none c xs (rw apart at e) in omega arith)
    ]

pub has-none : (c : List Lit) (xs : List (List Lit)) → times c xs ≡ 0 → has_clause xs c ≡ false
has-none c [] e = refl
has-none c (x ∷ xs) e =
    elim (cases_Bool (same_clause c x)) [
      | inl here ↦ let h = rw here at e in absurd (omega arith)
      | inr apart ↦ rw apart (has-none c xs (let h = rw apart at e in omega arith))
    ]

-- ---- what stays beside a lemma

or-right : (a b : Bool) → b ≡ true → (a || b) ≡ true
or-right true b e = refl
or-right false b e = e

part-of : (c d : List Lit) → ((a : Lit) → has_literal c a ≡ true → has_literal d a ≡ true) → is_part c d ≡ true
part-of [] d among = refl
part-of (a ∷ c) d among =
    and_from _ _ (among a (ap (λ b. b || has_literal c a) (lit_eq-same a)))
    (part-of c d (λ b there. among b (or-right (lit_eq b a) (has_literal c b) there)))

-- the lemma itself does not
pub stays-not : (n : ℕ) (c : List Lit) → stays n c c ≡ false
stays-not zero c = ap not (same-same c)
stays-not (suc n) c = ap not (part-of c c (λ a there. there))

pub times-filtered : (test : List Lit → Bool) (d : List Lit) (xs : List (List Lit)) → times d (filter test xs) ≤ times d xs
times-filtered test d [] = omega arith
times-filtered test d (x ∷ xs) =
    let rest = times-filtered test d xs in
    elim (cases_Bool (test x)) [
      | inl kept ↦ rw kept (omega arith)
      | inr gone ↦ rw gone (omega arith)
    ]

stays-other : (n : ℕ) (c d : List Lit) → stays n c d ≡ true → same_clause c d ≡ false
stays-other n c d kept =
    elim (cases_Bool (same_clause c d)) [
      | inl same ↦ absurd (false≢true (sym (stays-not n c) ∙ ap (stays n c) (same-is c d same) ∙ kept))
      | inr other ↦ other
    ]

pub times-stays : (n : ℕ) (c : List Lit) (xs : List (List Lit)) → times c (filter (stays n c) xs) ≡ 0
times-stays n c [] = refl
times-stays n c (x ∷ xs) =
    let rest = times-stays n c xs in
    elim (cases_Bool (stays n c x)) [
      | inl kept ↦ rw (kept, stays-other n c x kept) (omega arith)
      | inr gone ↦ rw gone rest
    ]
