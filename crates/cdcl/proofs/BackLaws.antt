-- Laws of the way back to a level of a trail.
use Rattle.std.proofs.Math.Dec.{leb}
use Rattle.std.proofs.Common.{◌≡◌, ℕ, ◌+◌, ◌-◌, ◌<◌, ◌≤◌, true, false, ◌&&◌, ◌||◌, eqb, List, [], ◌∷◌, ◌++◌, Option, Some, None, refl, ap, sym, subst, ◌∙◌, inl, inr, arith}
use Rattle.std.specs.Prelude.{is_none}
use Rattle.std.proofs.lemmas.Bool.{false≢true, and_parts, and_from, or_cases, or_left, or_right, cond-true, cond-false, le-leb, leb-true}
use Rattle.proof_semantics.specs.Clauses.{lit_eq, has_literal}
use Rattle.proof_semantics.specs.declared.literals.Lit.{Lit}
use Rattle.proof_semantics.proofs.LiteralLaws.{lit_eq-true}
use Rattle.cdcl_trail.specs.Trails.{Step, opened_by, step_of, value_of, level, level_of, up_to_level, up_to_variable}
use Rattle.cdcl_trail.specs.Propagation.{is_false, is_falsified, is_unit_for, is_unit, is_complete, IsForced, HaveReasons}
use Rattle.cdcl_trail.proofs.TrailLaws.{either, not-false, or_both}
use Rattle.cdcl_trail.proofs.ScanLaws.{all_has, any_gives, untrue, no_value}
use Rattle.cdcl_learn.specs.Learning.{is_assumed}
use Rattle.cdcl_learn.proofs.LiteralTraceLaws.{first_reasons}
use Rattle.cdcl_log.proofs.LoggedLaws.{numbered_more}

abbrev Has : List Lit → Lit → Type 0
Has lits a = has_literal lits a ≡ true

-- Cuts at a level.

cut_in : (k : ℕ) (x : Step) (xs : List Step) → leb (opened_by x.reason) k ≡ true → up_to_level k (x ∷ xs) ≡ x ∷ up_to_level (k - opened_by x.reason) xs
cut_in k x xs within = cond-true (leb (opened_by x.reason) k) (x ∷ up_to_level (k - opened_by x.reason) xs) [] within

cut_out : (k : ℕ) (x : Step) (xs : List Step) → leb (opened_by x.reason) k ≡ false → up_to_level k (x ∷ xs) ≡ []
cut_out k x xs above = cond-false (leb (opened_by x.reason) k) (x ∷ up_to_level (k - opened_by x.reason) xs) [] above

within_is : (m k : ℕ) → m ≤ k → leb m k ≡ true
within_is m k e = le-leb m k e

above_is : (m k : ℕ) → k < m → leb m k ≡ false
above_is m k e = untrue (leb m k) (λ t. omega (arith, e, leb-true m k t))

-- the steps of the lower levels come first
pub cut_is_first : (k : ℕ) (xs : List Step) → (rest : List Step) × (xs ≡ up_to_level k xs ++ rest)
cut_is_first k [] = ([], refl)
cut_is_first k (x ∷ xs) =
    elim (either (leb (opened_by x.reason) k)) [
      | inl within ↦
          let later = cut_is_first (k - opened_by x.reason) xs in
          (later.0, ap (λ zs. x ∷ zs) later.1 ∙ ap (λ zs. zs ++ later.0) (sym (cut_in k x xs within)))
      | inr above ↦ (x ∷ xs, ap (λ zs. zs ++ x ∷ xs) (sym (cut_out k x xs above)))
    ]

pub cut_behind : (k : ℕ) (xs ys : List Step) → level xs ≤ k → up_to_level k (xs ++ ys) ≡ xs ++ up_to_level (k - level xs) ys
cut_behind k [] ys e = ap (λ n. up_to_level n ys) (all_left k)
  where
    all_left : (k : ℕ) → k ≡ k - 0
    all_left k = omega arith
cut_behind k (x ∷ xs) ys e =
    cut_in k x (xs ++ ys) (within_is (opened_by x.reason) k (omega (arith, e)))
    ∙ ap (λ zs. x ∷ zs)
    (cut_behind (k - opened_by x.reason) xs ys (omega (arith, e)) ∙ ap (λ n. xs ++ up_to_level n ys) (left_of k (opened_by x.reason) (level xs)))
  where
    left_of : (k m n : ℕ) → (k - m) - n ≡ k - (m + n)
    left_of k m n = omega arith

pub cut_early : (k : ℕ) (xs ys : List Step) → k < level xs → up_to_level k (xs ++ ys) ≡ up_to_level k xs
cut_early k [] ys e = absurd (omega (arith, e))
cut_early k (x ∷ xs) ys e =
    elim (either (leb (opened_by x.reason) k)) [
      | inl within ↦
          cut_in k x (xs ++ ys) within
          ∙ ap (λ zs. x ∷ zs) (cut_early (k - opened_by x.reason) xs ys (omega (arith, e, leb-true (opened_by x.reason) k within)))
          ∙ sym (cut_in k x xs within)
      | inr above ↦ cut_out k x (xs ++ ys) above ∙ sym (cut_out k x xs above)
    ]

pub cut_twice : (k j : ℕ) (xs : List Step) → k ≤ j → up_to_level k (up_to_level j xs) ≡ up_to_level k xs
cut_twice k j [] e = refl
cut_twice k j (x ∷ xs) e =
    elim (either (leb (opened_by x.reason) j)) [
      | inl within_j ↦
          let rest = up_to_level (j - opened_by x.reason) xs in
          ap (up_to_level k) (cut_in j x xs within_j)
          ∙ elim (either (leb (opened_by x.reason) k)) [
            | inl within ↦
                cut_in k x rest within
                ∙ ap (λ zs. x ∷ zs) (cut_twice (k - opened_by x.reason) (j - opened_by x.reason) xs (omega (arith, e)))
                ∙ sym (cut_in k x xs within)
            | inr above ↦ cut_out k x rest above ∙ sym (cut_out k x xs above)
          ]
      | inr above_j ↦
          ap (up_to_level k) (cut_out j x xs above_j)
          ∙ sym (cut_out k x xs (untrue (leb (opened_by x.reason) k) (λ t. out_of (opened_by x.reason) k j e (leb-true (opened_by x.reason) k t) above_j)))
    ]
  where
    out_of : (m k j : ℕ) → k ≤ j → m ≤ k → leb m j ≡ false → ⊥
    out_of m k j e t above = false≢true (sym above ∙ le-leb m j (omega (arith, e, t)))

-- The level of a variable.

level_here : (x : Step) (xs : List Step) (v : ℕ) → eqb x.literal.var v ≡ true → level_of (x ∷ xs) v ≡ opened_by x.reason
level_here x xs v here = ap level (cond-true (eqb x.literal.var v) (x ∷ []) (x ∷ up_to_variable xs v) here) ∙ only (opened_by x.reason)
  where
    only : (n : ℕ) → n + 0 ≡ n
    only n = omega arith

level_later : (x : Step) (xs : List Step) (v : ℕ) → eqb x.literal.var v ≡ false → level_of (x ∷ xs) v ≡ opened_by x.reason + level_of xs v
level_later x xs v differs = ap level (cond-false (eqb x.literal.var v) (x ∷ []) (x ∷ up_to_variable xs v) differs)

step_here : (x : Step) (xs : List Step) (v : ℕ) → eqb x.literal.var v ≡ true → step_of (x ∷ xs) v ≡ Some x
step_here x xs v here = cond-true (eqb x.literal.var v) (Some x) (step_of xs v) here

step_later : (x : Step) (xs : List Step) (v : ℕ) → eqb x.literal.var v ≡ false → step_of (x ∷ xs) v ≡ step_of xs v
step_later x xs v differs = cond-false (eqb x.literal.var v) (Some x) (step_of xs v) differs

-- a variable has no value on the levels below its own
pub late_step : (k : ℕ) (xs : List Step) (v : ℕ) → k < level_of xs v → step_of (up_to_level k xs) v ≡ None
late_step k [] v e = refl
late_step k (x ∷ xs) v e =
    elim (either (eqb x.literal.var v)) [
      | inl here ↦ ap (λ zs. step_of zs v) (cut_out k x xs (above_is (opened_by x.reason) k (omega (arith, e, level_here x xs v here))))
      | inr differs ↦
          let deep = level_later x xs v differs in
          elim (either (leb (opened_by x.reason) k)) [
            | inl within ↦
                ap (λ zs. step_of zs v) (cut_in k x xs within)
                ∙ step_later x (up_to_level (k - opened_by x.reason) xs) v differs
                ∙ late_step (k - opened_by x.reason) xs v (omega (arith, e, deep, leb-true (opened_by x.reason) k within))
            | inr above ↦ ap (λ zs. step_of zs v) (cut_out k x xs above)
          ]
    ]

-- and from its own level on it has
pub early_step : (k : ℕ) (xs : List Step) (v : ℕ) (s : Step) → step_of xs v ≡ Some s → level_of xs v ≤ k → step_of (up_to_level k xs) v ≡ Some s
early_step k [] v s is e = is
early_step k (x ∷ xs) v s is e =
    elim (either (eqb x.literal.var v)) [
      | inl here ↦
          let within = within_is (opened_by x.reason) k (omega (arith, e, level_here x xs v here)) in
          ap (λ zs. step_of zs v) (cut_in k x xs within)
          ∙ step_here x (up_to_level (k - opened_by x.reason) xs) v here ∙ sym (step_here x xs v here) ∙ is
      | inr differs ↦
          let deep = level_later x xs v differs in
          let within = within_is (opened_by x.reason) k (omega (arith, e, deep)) in
          ap (λ zs. step_of zs v) (cut_in k x xs within)
          ∙ step_later x (up_to_level (k - opened_by x.reason) xs) v differs
          ∙ early_step (k - opened_by x.reason) xs v s (sym (step_later x xs v differs) ∙ is) (omega (arith, e, deep))
    ]

-- Reasons.

forced_more : (clauses more : List (List Lit)) (before : List Step) (step : Step) → IsForced clauses before step → IsForced (clauses ++ more) before step
forced_more clauses more before step f = record {
  number = f.number;
  reason = f.reason;
  clause = f.clause;
  held = numbered_more clauses more f.number f.clause f.held;
  left = f.left;
}

pub reasons_more : (clauses more : List (List Lit)) (before xs : List Step) → HaveReasons clauses before xs → HaveReasons (clauses ++ more) before xs
reasons_more clauses more before [] all = tt
reasons_more clauses more before (x ∷ xs) all = (
  elim all.0 [
    | inl none ↦ inl none
    | inr f ↦ inr (forced_more clauses more before x f)
  ],
  reasons_more clauses more (before ++ x ∷ []) xs all.1,
)

-- What is kept of reasons on the lower levels, where clauses come.
pub reasoned_back : (clauses more : List (List Lit)) (k : ℕ) (xs : List Step) → HaveReasons clauses [] xs → HaveReasons (clauses ++ more) [] (up_to_level k xs)
reasoned_back clauses more k xs all =
    let cut = cut_is_first k xs in
    reasons_more clauses more [] (up_to_level k xs) (first_reasons clauses [] (up_to_level k xs) cut.0 (subst (λ zs. HaveReasons clauses [] zs) cut.1 all))

-- A clause of which two literals have no value.

unit_open : (steps : List Step) (clause : List Lit) (u b : Lit) → is_unit_for steps clause u ≡ true → Has clause b → value_of steps b.var ≡ None → u ≡ b
unit_open steps clause u b unit has none =
    let parts = and_parts _ _ unit in
    let rest = and_parts _ _ parts.1 in
    elim (or_cases _ _ (all_has (λ c. lit_eq u c || is_false steps c) clause b rest.1 has)) [
      | inl same ↦ lit_eq-true u b same
      | inr falsified ↦ absurd (no_value _ _ none falsified)
    ]

pub open_two : (steps : List Step) (clause : List Lit) (a b : Lit) → Has clause a → Has clause b → value_of steps a.var ≡ None → value_of steps b.var ≡ None → (a ≡ b → ⊥)
    → (is_falsified steps clause ≡ false) × (is_unit steps clause ≡ false)
open_two steps clause a b has_a has_b none_a none_b differs = (
  untrue _ (λ all. no_value _ _ none_a (all_has (is_false steps) clause a all has_a)),
  untrue _ (λ e.
      let found = any_gives (is_unit_for steps clause) clause e in
      differs (sym (unit_open steps clause found.0 a found.2 has_a none_a) ∙ unit_open steps clause found.0 b found.2 has_b none_b)),
)

pub complete_more : (clauses : List (List Lit)) (clause : List Lit) (steps : List Step) → is_complete clauses steps ≡ true → is_falsified steps clause ≡ false → is_unit steps clause ≡ false
    → is_complete (clauses ++ clause ∷ []) steps ≡ true
complete_more [] clause steps all unfalsified not_unit = and_from _ _ (not-false _ (or_both _ _ unfalsified not_unit)) refl
complete_more (c ∷ clauses) clause steps all unfalsified not_unit =
    let parts = and_parts _ _ all in and_from _ _ parts.0 (complete_more clauses clause steps parts.1 unfalsified not_unit)

-- Assumed literals.

none_opens : (r : Option ℕ) → is_none r ≡ true → opened_by r ≡ 1
none_opens None e = refl
none_opens (Some n) e = absurd (false≢true e)

pub no_assumed : (xs : List Step) (b : Lit) → level xs ≡ 0 → is_assumed xs b ≡ true → ⊥
no_assumed [] b deep e = false≢true e
no_assumed (x ∷ xs) b deep e =
    elim (or_cases (lit_eq x.literal b && is_none x.reason) (is_assumed xs b) e) [
      | inl here ↦ omega (arith, deep, none_opens x.reason (and_parts (lit_eq x.literal b) (is_none x.reason) here).1)
      | inr later ↦ no_assumed xs b (omega (arith, deep)) later
    ]

-- what is assumed stands before the steps that open no level
pub assumed_first : (xs ys : List Step) (b : Lit) → level ys ≡ 0 → is_assumed (xs ++ ys) b ≡ true → is_assumed xs b ≡ true
assumed_first [] ys b deep e = absurd (no_assumed ys b deep e)
assumed_first (x ∷ xs) ys b deep e =
    elim (or_cases (lit_eq x.literal b && is_none x.reason) (is_assumed (xs ++ ys) b) e) [
      | inl here ↦ or_left _ _ here
      | inr later ↦ or_right _ _ (assumed_first xs ys b deep later)
    ]
