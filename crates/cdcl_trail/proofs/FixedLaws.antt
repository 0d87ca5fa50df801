-- Laws of literals that are fixed: those that are true on level 0.
use Rattle.std.proofs.Math.Dec.{leb}
use Rattle.std.proofs.Common.{◌≡◌, ℕ, ◌+◌, ◌-◌, Bool, true, false, eqb, List, [], ◌∷◌, ◌++◌, Option, Some, None, refl, ap, sym, ◌∙◌, inl, inr, arith, eqb-true, eq-eqb}
use Rattle.std.specs.Option.{option_map, IsSome}
use Rattle.std.proofs.lemmas.Bool.{false≢true, cond-true, cond-false, leb-true, le-leb}
use Rattle.std.proofs.lemmas.Option.{none-some}
use Rattle.proof_semantics.specs.declared.literals.Lit.{Lit}
use Rattle.cdcl_trail.specs.Trails.{Step, opened_by, step_of, value_of, level, up_to_variable, level_of, up_to_level}
use Rattle.cdcl_trail.specs.Propagation.{is_value, is_true, is_false, is_fixed}
use Rattle.cdcl_trail.specs.Guards.{IsFront}
use Rattle.cdcl_trail.specs.Storing.{Covers}
use Rattle.cdcl_trail.specs.declared.watching.Watching.{Watching}
use Rattle.cdcl_trail.proofs.TrailLaws.{either}
use Rattle.cdcl_trail.proofs.ScanLaws.{one_value}
use Rattle.cdcl_trail.proofs.GuardLaws.{true_front}
use Rattle.cdcl_trail.proofs.StoreLaws.{covered_grow}

-- the steps of a level are the first of all
pub cut_front : (n : ℕ) (xs : List Step) → IsFront (up_to_level n xs) xs
cut_front n [] = ([], refl)
cut_front n (x ∷ xs) =
    elim (either (leb (opened_by x.reason) n)) [
      | inl fits ↦
          let later = cut_front (n - opened_by x.reason) xs in (
            later.0,
            ap (λ ys. x ∷ ys) later.1
                ∙ ap (λ ys. ys ++ later.0) (sym (cond-true (leb (opened_by x.reason) n) (x ∷ up_to_level (n - opened_by x.reason) xs) [] fits)),
          )
      | inr over ↦ (x ∷ xs, ap (λ ys. ys ++ x ∷ xs) (sym (cond-false (leb (opened_by x.reason) n) (x ∷ up_to_level (n - opened_by x.reason) xs) [] over)))
    ]

-- and stay so where others come
cut_grows : (n : ℕ) (xs ys : List Step) → IsFront (up_to_level n xs) (up_to_level n (xs ++ ys))
cut_grows n [] ys = (up_to_level n ys, refl)
cut_grows n (x ∷ xs) ys =
    elim (either (leb (opened_by x.reason) n)) [
      | inl fits ↦
          let later = cut_grows (n - opened_by x.reason) xs ys in (
            later.0,
            cond-true (leb (opened_by x.reason) n) (x ∷ up_to_level (n - opened_by x.reason) (xs ++ ys)) [] fits
                ∙ ap (λ zs. x ∷ zs) later.1
                ∙ ap (λ zs. zs ++ later.0) (sym (cond-true (leb (opened_by x.reason) n) (x ∷ up_to_level (n - opened_by x.reason) xs) [] fits)),
          )
      | inr over ↦ (
        [],
        cond-false (leb (opened_by x.reason) n) (x ∷ up_to_level (n - opened_by x.reason) (xs ++ ys)) [] over
            ∙ ap (λ zs. zs ++ []) (sym (cond-false (leb (opened_by x.reason) n) (x ∷ up_to_level (n - opened_by x.reason) xs) [] over)),
      )
    ]

pub fixed_front : (xs ys : List Step) (a : Lit) → IsFront xs ys → is_fixed xs a ≡ true → is_fixed ys a ≡ true
fixed_front xs ys a f e = ap (λ zs. is_fixed zs a) f.1 ∙ true_front (up_to_level 0 xs) (up_to_level 0 (xs ++ f.0)) a (cut_grows 0 xs f.0) e

pub fixed_true : (xs : List Step) (a : Lit) → is_fixed xs a ≡ true → is_true xs a ≡ true
fixed_true xs a e = true_front (up_to_level 0 xs) xs a (cut_front 0 xs) e

pub false_unfixed : (xs : List Step) (a : Lit) → is_false xs a ≡ true → is_fixed xs a ≡ false
false_unfixed xs a gone =
    elim (either (is_fixed xs a)) [
      | inl fixed ↦ absurd (one_value (value_of xs a.var) a.positive (fixed_true xs a fixed) gone)
      | inr unfixed ↦ unfixed
    ]

pub covers_front : (xs ys : List Step) (w : Watching) → IsFront xs ys → Covers (is_fixed xs) w → Covers (is_fixed ys) w
covers_front xs ys w f all = covered_grow (is_fixed xs) (is_fixed ys) w.lists w.pairs.items (λ a e. fixed_front xs ys a f e) all

-- By the level of a variable.

cut_open : (x : Step) (xs : List Step) → opened_by x.reason ≡ 0 → up_to_level 0 (x ∷ xs) ≡ x ∷ up_to_level 0 xs
cut_open x xs flat =
    let none : 0 - opened_by x.reason ≡ 0 = omega (arith, flat) in
    cond-true (leb (opened_by x.reason) 0) (x ∷ up_to_level (0 - opened_by x.reason) xs) [] (le-leb (opened_by x.reason) 0 (omega (arith, flat)))
    ∙ ap (λ n. x ∷ up_to_level n xs) none

-- a variable of level 0 has its step on it
step_on_first : (xs : List Step) (v : ℕ) → level_of xs v ≡ 0 → step_of (up_to_level 0 xs) v ≡ step_of xs v
step_on_first [] v e = refl
step_on_first (x ∷ xs) v e =
    elim (either (eqb x.literal.var v)) [
      | inl same ↦
          let here : opened_by x.reason + 0 ≡ 0 = sym (ap level (cond-true (eqb x.literal.var v) (x ∷ []) (x ∷ up_to_variable xs v) same)) ∙ e in
          ap (λ zs. step_of zs v) (cut_open x xs (omega (arith, here)))
          ∙ cond-true (eqb x.literal.var v) (Some x) (step_of (up_to_level 0 xs) v) same
          ∙ sym (cond-true (eqb x.literal.var v) (Some x) (step_of xs v) same)
      | inr differs ↦
          let deep : opened_by x.reason + level_of xs v ≡ 0 = sym (ap level (cond-false (eqb x.literal.var v) (x ∷ []) (x ∷ up_to_variable xs v) differs)) ∙ e in
          ap (λ zs. step_of zs v) (cut_open x xs (omega (arith, deep)))
          ∙ cond-false (eqb x.literal.var v) (Some x) (step_of (up_to_level 0 xs) v) differs
          ∙ step_on_first xs v (omega (arith, deep))
          ∙ sym (cond-false (eqb x.literal.var v) (Some x) (step_of xs v) differs)
    ]

-- and the other way round
first_level : (xs : List Step) (v : ℕ) (s : Step) → step_of (up_to_level 0 xs) v ≡ Some s → level_of xs v ≡ 0
first_level [] v s e = absurd (none-some s e)
first_level (x ∷ xs) v s e =
    elim (either (leb (opened_by x.reason) 0)) [
      | inl fits ↦
          let flat : opened_by x.reason ≡ 0 = omega (arith, leb-true (opened_by x.reason) 0 fits) in
          elim (either (eqb x.literal.var v)) [
            | inl same ↦
                let here : opened_by x.reason + 0 ≡ 0 = omega (arith, flat) in
                ap level (cond-true (eqb x.literal.var v) (x ∷ []) (x ∷ up_to_variable xs v) same) ∙ here
            | inr differs ↦
                let later : level_of xs v ≡ 0 =
                first_level xs v s
                (sym (cond-false (eqb x.literal.var v) (Some x) (step_of (up_to_level 0 xs) v) differs) ∙ sym (ap (λ zs. step_of zs v) (cut_open x xs flat)) ∙ e) in
                let deep : opened_by x.reason + level_of xs v ≡ 0 = omega (arith, flat, later) in
                ap level (cond-false (eqb x.literal.var v) (x ∷ []) (x ∷ up_to_variable xs v) differs) ∙ deep
          ]
      | inr over ↦
          absurd (none-some s (sym (ap (λ zs. step_of zs v) (cond-false (leb (opened_by x.reason) 0) (x ∷ up_to_level (0 - opened_by x.reason) xs) [] over)) ∙ e))
    ]

has_step : (xs : List Step) (v : ℕ) (b : Bool) (o : Option Step) → step_of xs v ≡ o → is_value (value_of xs v) b ≡ true → (s : Step) × (step_of xs v ≡ Some s)
has_step xs v b None is e = absurd (false≢true (sym (ap (λ p. is_value (option_map (λ (s : Step). s.literal.positive) p) b) is) ∙ e))
has_step xs v b (Some s) is e = (s, is)

-- whether a true literal is fixed, by its level
pub fixed_read : (xs : List Step) (a : Lit) (n : ℕ) → is_true xs a ≡ true → n ≡ level_of xs a.var → eqb n 0 ≡ is_fixed xs a
fixed_read xs a n holds at =
    elim (either (eqb n 0)) [
      | inl low ↦
          let fixed : is_fixed xs a ≡ true =
          ap (λ p. is_value (option_map (λ (s : Step). s.literal.positive) p) a.positive) (step_on_first xs a.var (sym at ∙ eqb-true n 0 low)) ∙ holds in
          low ∙ sym fixed
      | inr high ↦
          elim (either (is_fixed xs a)) [
            | inl fixed ↦
                let found = has_step (up_to_level 0 xs) a.var a.positive (step_of (up_to_level 0 xs) a.var) refl fixed in
                absurd (false≢true (sym high ∙ eq-eqb n 0 (at ∙ first_level xs a.var found.0 found.1)))
            | inr unfixed ↦ high ∙ sym unfixed
          ]
    ]

pub is_valued : (o : Option Bool) (b : Bool) → is_value o b ≡ true → IsSome o
is_valued None b e = absurd (false≢true e)
is_valued (Some c) b e = refl
