-- Laws of names and their numbers.
use Rattle.std.proofs.Common.{◌≡◌, ℕ, suc, ◌+◌, ◌<◌, ◌^◌, Bool, true, false, cond, eqb, List, [], ◌∷◌, ◌++◌, length, Option, Some, None, refl, ap, sym, subst, ◌∙◌, ◌⊎◌, inl, inr, arith, eqb-true, eq-eqb, ne_eqb}
use Rattle.std.specs.Prelude.{is_some}
use Rattle.std.specs.Option.{option_map}
use Rattle.std.proofs.lemmas.Bool.{cases_lt, cond-true, cond-false, false≢true}
use Rattle.std.proofs.lemmas.List.{length_push, get_or_append_left, get_or_push}
use Rattle.std.proofs.lemmas.Option.{none-some, same_Some}
use Rattle.packed_literals.specs.Naming.{place_among, with_name, name_of, AreApart}
use Rattle.packed_literals.specs.NamesOf.{IsInterned}
use Rattle.packed_literals.specs.Tables.{told}
use Rattle.packed_literals.specs.declared.names.Names.TheInside.{Inside}

-- where a place comes from: this variable, or a later one
pub place_cases : (b : Bool) (later : Option ℕ) (p : ℕ) → cond b (Some 0) (option_map (λ place. place + 1) later) ≡ Some p
    → ((b ≡ true) × (p ≡ 0)) ⊎ ((q : ℕ) × (b ≡ false) × (later ≡ Some q) × (p ≡ q + 1))
place_cases true later p e = inl (refl, sym (same_Some 0 p e))
place_cases false None p e = absurd (none-some p e)
place_cases false (Some q) p e = inr (q, refl, refl, sym (same_Some (q + 1) p e))

pub no_place_cases : (b : Bool) (later : Option ℕ) → cond b (Some 0) (option_map (λ place. place + 1) later) ≡ None → (b ≡ false) × (later ≡ None)
no_place_cases true later e = absurd (none-some 0 (sym e))
no_place_cases false None e = (refl, refl)
no_place_cases false (Some q) e = absurd (none-some (q + 1) (sym e))

pub place_below : (names : List ℕ) (v n : ℕ) → place_among names v ≡ Some n → n < length names
place_below [] v n e = absurd (none-some n e)
place_below (name ∷ names) v n e =
    elim (place_cases _ _ n e) [
      | inl here ↦ omega (arith, here.1)
      | inr later ↦ let below = place_below names v later.0 later.2 in omega (arith, later.3, below)
    ]

name_next : (name n m : ℕ) (names : List ℕ) → n ≡ m + 1 → name_of (name ∷ names) n ≡ name_of names m
name_next name n m names e =
    let next : n ≡ suc m = omega (arith, e) in
    ap (λ k. name_of (name ∷ names) k) next

-- the variable that was found
pub name_found : (names : List ℕ) (v n : ℕ) → place_among names v ≡ Some n → name_of names n ≡ v
name_found [] v n e = absurd (none-some n e)
name_found (name ∷ names) v n e =
    elim (place_cases _ _ n e) [
      | inl here ↦ ap (λ k. name_of (name ∷ names) k) here.1 ∙ eqb-true name v here.0
      | inr later ↦ name_next name n later.0 names later.3 ∙ name_found names v later.0 later.2
    ]

pub place_front : (xs ys : List ℕ) (v n : ℕ) → place_among xs v ≡ Some n → place_among (xs ++ ys) v ≡ Some n
place_front [] ys v n e = absurd (none-some n e)
place_front (x ∷ xs) ys v n e =
    elim (place_cases _ _ n e) [
      | inl here ↦ cond-true (eqb x v) (Some 0) _ here.0 ∙ ap Some (sym here.1)
      | inr later ↦
          cond-false (eqb x v) (Some 0) _ later.1
          ∙ ap (option_map (λ place. place + 1)) (place_front xs ys v later.0 later.2)
          ∙ ap Some (sym later.3)
    ]

pub map_cond : (b : Bool) (n : ℕ) (later : Option ℕ) → option_map (λ place. place + 1) (cond b (Some n) later) ≡ cond b (Some (n + 1)) (option_map (λ place. place + 1) later)
map_cond true n later = refl
map_cond false n later = refl

pub swap_cond : {T : Type 0} (b c : Bool) (x y z : T) → (b ≡ true → c ≡ false) → cond b x (cond c y z) ≡ cond c y (cond b x z)
swap_cond true true x y z apart = absurd (false≢true (sym (apart refl)))
swap_cond true false x y z apart = refl
swap_cond false c x y z apart = refl

pub apart_at : (x a v : ℕ) → eqb x a ≡ false → eqb x v ≡ true → eqb a v ≡ false
apart_at x a v differs same = ne_eqb a v (λ e. false≢true (sym differs ∙ eq-eqb x a (eqb-true x v same ∙ sym e)))

next_length : (n : ℕ) → n + 1 ≡ suc n
next_length n = omega arith

-- A new variable's number is the next one.
pub place_push : (names : List ℕ) (a v : ℕ) → place_among names a ≡ None
    → place_among (names ++ a ∷ []) v ≡ cond (eqb a v) (Some (length names)) (place_among names v)
place_push [] a v none = refl
place_push (name ∷ names) a v none =
    let parts = no_place_cases _ _ none in
    ap (λ later. cond (eqb name v) (Some 0) (option_map (λ place. place + 1) later)) (place_push names a v parts.1)
    ∙ ap (cond (eqb name v) (Some 0)) (map_cond (eqb a v) (length names) (place_among names v))
    ∙ swap_cond (eqb name v) (eqb a v) (Some 0) (Some (length names + 1)) _ (apart_at name a v parts.0)
    ∙ ap (λ n. cond (eqb a v) (Some n) (place_among (name ∷ names) v)) (next_length (length names))

pub place_of_new : (names : List ℕ) (a : ℕ) → place_among names a ≡ None → place_among (names ++ a ∷ []) a ≡ Some (length names)
place_of_new names a none = place_push names a a none ∙ cond-true (eqb a a) (Some (length names)) (place_among names a) (eq-eqb a a refl)

pub apart_push : (names : List ℕ) (a : ℕ) → AreApart names → place_among names a ≡ None → AreApart (names ++ a ∷ [])
apart_push names a apart none n below =
    elim (cases_lt n (length names)) [
      | inl within ↦
          ap (place_among (names ++ a ∷ [])) (get_or_append_left names (a ∷ []) 0 n within)
          ∙ place_front names (a ∷ []) (name_of names n) n (apart n within)
      | inr past ↦
          let last : length names ≡ n = omega (arith, past, below, length_push names a) in
          ap (place_among (names ++ a ∷ [])) (get_or_push names a 0 n last)
          ∙ place_of_new names a none
          ∙ ap Some last
    ]

pub with_known : (names : List ℕ) (v n : ℕ) → place_among names v ≡ Some n → with_name names v ≡ names
with_known names v n e = ap (λ o. cond (is_some o) names (names ++ v ∷ [])) e

pub with_new : (names : List ℕ) (v : ℕ) → place_among names v ≡ None → with_name names v ≡ names ++ v ∷ []
with_new names v e = ap (λ o. cond (is_some o) names (names ++ v ∷ [])) e

pub orderly_added : (t u : Inside) (a : ℕ) → IsInterned t → place_among t.names.items a ≡ None → length t.names.items < 2 ^ 31
    → u.names.items ≡ t.names.items ++ a ∷ []
    → ((v : ℕ) → told u.numbers v ≡ cond (eqb a v) (Some (length t.names.items)) (told t.numbers v)) → IsInterned u
orderly_added t u a orderly none room names numbers = record {
  numbers = λ v.
      numbers v
      ∙ ap (cond (eqb a v) (Some (length t.names.items))) (orderly.numbers v)
      ∙ sym (place_push t.names.items a v none)
      ∙ ap (λ xs. place_among xs v) (sym names);
  apart = subst AreApart (sym names) (apart_push t.names.items a orderly.apart none);
  few = omega (arith, ap length names, length_push t.names.items a, room);
}
