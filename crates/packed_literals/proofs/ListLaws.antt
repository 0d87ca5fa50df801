-- Laws of lists of numbers: what is taken out, and what is put behind.
use Rattle.std.proofs.Common.{◌≡◌, ℕ, zero, suc, ◌<◌, ◌≤◌, Bool, true, false, List, [], ◌∷◌, ◌++◌, length, Some, refl, ap, sym, subst, ◌∙◌, inl, inr, arith, ◌⊎◌}
use Rattle.std.specs.Prelude.{slice_get}
use Rattle.std.proofs.Math.ListN.{set, length-set}
use Rattle.std.proofs.lemmas.Option.{none-some, same_Some, slice_get_within}
use Rattle.std.proofs.lemmas.Bool.{false≢true}
use Rattle.proof_semantics.specs.Clauses.{lit_eq}
use Rattle.proof_semantics.specs.declared.literals.Lit.{Lit}
use Rattle.proof_semantics.proofs.LiteralLaws.{lit_eq-same}
use Rattle.packed_literals.specs.Packing.{literal, code_of}
use Rattle.packed_literals.specs.Lists.{IsIn, IsWithout}

pub get_in_append : {A : Type 0} (xs ys : List A) (i : ℕ) (x : A) → slice_get xs i ≡ Some x → slice_get (xs ++ ys) i ≡ Some x
get_in_append [] ys i x e = absurd (none-some x e)
get_in_append (y ∷ xs) ys zero x e = e
get_in_append (y ∷ xs) ys (suc i) x e = get_in_append xs ys i x e

pub get_last : {A : Type 0} (xs : List A) (x : A) → slice_get (xs ++ x ∷ []) (length xs) ≡ Some x
get_last [] x = refl
get_last (y ∷ xs) x = get_last xs x

-- what stands in a list with one more element
pub get_push : {A : Type 0} (xs : List A) (y : A) (i : ℕ) (x : A) → slice_get (xs ++ y ∷ []) i ≡ Some x → (slice_get xs i ≡ Some x) ⊎ ((i ≡ length xs) × (x ≡ y))
get_push [] y zero x e = inr (refl, sym (same_Some y x e))
get_push [] y (suc i) x e = absurd (none-some x e)
get_push (z ∷ xs) y zero x e = inl e
get_push (z ∷ xs) y (suc i) x e = elim (get_push xs y i x e) [ inl before ↦ inl before | inr last ↦ inr (ap suc last.0, last.1) ]

pub get_set : {A : Type 0} (xs : List A) (i : ℕ) (x y : A) → slice_get xs i ≡ Some y → slice_get (set xs i x) i ≡ Some x
get_set [] i x y e = absurd (none-some y e)
get_set (z ∷ xs) zero x y e = refl
get_set (z ∷ xs) (suc i) x y e = get_set xs i x y e

pub get_set_other : {A : Type 0} (xs : List A) (i j : ℕ) (x : A) → (i ≡ j → ⊥) → slice_get (set xs i x) j ≡ slice_get xs j
get_set_other [] i j x apart = refl
get_set_other (z ∷ xs) zero zero x apart = absurd (apart refl)
get_set_other (z ∷ xs) zero (suc j) x apart = refl
get_set_other (z ∷ xs) (suc i) zero x apart = refl
get_set_other (z ∷ xs) (suc i) (suc j) x apart = get_set_other xs i j x (λ e. apart (ap suc e))

pub in_push : (xs : List ℕ) (n : ℕ) → IsIn (xs ++ n ∷ []) n
in_push xs n = (length xs, get_last xs n)

pub in_more : (xs ys : List ℕ) (n : ℕ) → IsIn xs n → IsIn (xs ++ ys) n
in_more xs ys n e = (e.0, get_in_append xs ys e.0 n e.1)

pub length_last : {A : Type 0} (xs : List A) (x : A) → length (xs ++ x ∷ []) ≡ suc (length xs)
length_last [] x = refl
length_last (y ∷ xs) x = ap suc (length_last xs x)

-- a place is the given one or another
pub place_either : (i j : ℕ) → (i ≡ j) ⊎ (i ≡ j → ⊥)
place_either zero zero = inl refl
place_either zero (suc j) = inr (λ e. omega (arith, e))
place_either (suc i) zero = inr (λ e. omega (arith, e))
place_either (suc i) (suc j) = elim (place_either i j) [ inl e ↦ inl (ap suc e) | inr apart ↦ inr (λ e. apart (omega (arith, e))) ]

kept_inner : (xs : List ℕ) (place last n y : ℕ) → slice_get xs place ≡ Some y → (j : ℕ) → slice_get (xs ++ last ∷ []) j ≡ Some n
    → (slice_get (xs ++ last ∷ []) place ≡ Some n) ⊎ IsIn (set xs place last) n
kept_inner xs place last n y here j e =
    elim (get_push xs last j n e) [
      | inl before ↦ elim (place_either place j) [
        | inl same ↦ inl (subst (λ k. slice_get (xs ++ last ∷ []) k ≡ Some n) (sym same) e)
        | inr apart ↦ inr (j, get_set_other xs place j last apart ∙ before)
      ]
      | inr at_last ↦ inr (place, get_set xs place last y here ∙ ap (λ k. Some k) (sym at_last.1))
    ]

only_inner : (xs : List ℕ) (place last n y : ℕ) → slice_get xs place ≡ Some y → IsIn (set xs place last) n → IsIn (xs ++ last ∷ []) n
only_inner xs place last n y here e =
    elim (place_either place e.0) [
      | inl same ↦
          let there : slice_get (set xs place last) place ≡ Some n =
          subst (λ k. slice_get (set xs place last) k ≡ Some n) (sym same) e.1
          in
          let is : last ≡ n = same_Some last n (sym (get_set xs place last y here) ∙ there) in
          subst (IsIn (xs ++ last ∷ [])) is (in_push xs last)
      | inr apart ↦ (e.0, get_in_append xs (last ∷ []) e.0 n (sym (get_set_other xs place e.0 last apart) ∙ e.1))
    ]

pub below_push : {A : Type 0} (xs : List A) (y : A) (j : ℕ) → j < length xs → slice_get (xs ++ y ∷ []) j ≡ slice_get xs j
below_push [] y j under = absurd (omega arith)
below_push (x ∷ xs) y zero under = refl
below_push (x ∷ xs) y (suc j) under = below_push xs y j (omega arith)

pub without_inner : (list rest : List ℕ) (place last y : ℕ) → list ≡ rest ++ last ∷ [] → slice_get rest place ≡ Some y → IsWithout list place (set rest place last)
without_inner list rest place last y is here = subst (λ xs. IsWithout xs place (set rest place last)) (sym is) (record {
  shorter = ap suc (length-set rest place last) ∙ sym (length_last rest last);
  below = λ j under. get_set_other rest place j last (λ e. omega (arith, e, under)) ∙ sym (below_push rest last j (omega (arith, under, slice_get_within rest place y here)));
  kept = λ n e. kept_inner rest place last n y here e.0 e.1;
  only = λ n e. only_inner rest place last n y here e;
})

-- the last element goes
pub without_last : (list rest : List ℕ) (place last : ℕ) → list ≡ rest ++ last ∷ [] → place < length list → length rest ≤ place → IsWithout list place rest
without_last list rest place last is within past =
    let long : length list ≡ suc (length rest) = ap length is ∙ length_last rest last in
    let at : place ≡ length rest = omega arith in
    subst (λ xs. IsWithout xs place rest) (sym is) (record {
      shorter = sym (length_last rest last);
      below = λ j under. sym (below_push rest last j (omega arith));
      kept = λ n e. elim (get_push rest last e.0 n e.1) [
        | inl before ↦ inr (e.0, before)
        | inr at_last ↦ inl (ap (slice_get (rest ++ last ∷ [])) (at ∙ sym at_last.0) ∙ e.1)
      ];
      only = λ n e. in_more rest (last ∷ []) n e;
    })

-- Rows of lists.

-- Codes of literals.

same_sign : (m n : ℕ) (b c : Bool) → code_of (literal m b) ≡ code_of (literal n c) → (m ≡ n) × (b ≡ c)
same_sign m n true true e = (omega (arith, e), refl)
same_sign m n true false e = absurd (omega (arith, e))
same_sign m n false true e = absurd (omega (arith, e))
same_sign m n false false e = (omega (arith, e), refl)

-- literals that differ have codes that differ
pub codes_apart : (a b : Lit) → lit_eq a b ≡ false → code_of a ≡ code_of b → ⊥
codes_apart a b differs e =
    let same = same_sign a.var b.var a.positive b.positive e in
    false≢true (sym differs ∙ subst (λ (c : Lit). lit_eq c b ≡ true) (λ i. literal (sym same.0 i) (sym same.1 i)) (lit_eq-same b))
