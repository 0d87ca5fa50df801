-- Laws of the walk back from a false literal: the trail before its negation came, and the literal assumed behind.
use Rattle.std.proofs.Common.{◌≡◌, ℕ, zero, suc, ◌+◌, ◌<◌, ◌≤◌, Bool, true, false, ◌&&◌, List, [], ◌∷◌, ◌++◌, length, take, Option, Some, None, refl, ap, sym, subst, ◌∙◌, ◌⊎◌, inl, inr, arith, append_assoc, eqb, eqb-true}
use Rattle.std.specs.Prelude.{is_none, slice_get, Result, Ok, Err, IfOk}
use Rattle.std.specs.List.{list_any}
use Rattle.std.specs.Option.{option_map, option_flatten, unwrap_or}
use Rattle.std.proofs.lemmas.List.{append-nil}
use Rattle.std.proofs.lemmas.Bool.{false≢true, and_parts, and_from, or_cases, or_left, or_right, cond-true, cond-false}
use Rattle.std.proofs.lemmas.Option.{none-some, same_Some, slice_get_within}
use Rattle.proof_semantics.specs.Clauses.{lit_eq, negation, has_literal}
use Rattle.cnf.specs.Clauses.{clause_numbered}
use Rattle.proof_semantics.specs.declared.literals.Lit.{Lit}
use Rattle.proof_semantics.proofs.LiteralLaws.{lit_eq-true, lit_eq-same, negation_twice, bool_eq-same, bool_eq-true, same_lit}
use Rattle.cdcl_trail.specs.AssignmentOf.{steps_from, place_in}
use Rattle.cdcl_trail.specs.Trails.{Step, assumed, literals_of, reasons_in, step_of, value_of, once}
use Rattle.cdcl_trail.specs.Propagation.{is_value, is_true, is_false, is_falsified, is_unit_for, IsForced, HaveReasons, IsConflict, IsReasonedTrail}
use Rattle.cdcl_trail.proofs.TrailLaws.{either, once_push, not-true, not-false, or_neither, or_both}
use Rattle.cdcl_trail.proofs.ScanLaws.{unit_others}
use Rattle.cdcl_trail.proofs.PassLaws.{step_comes, no_step}
use Rattle.cdcl_trail.proofs.PrefixLaws.{all_from, false_more, reasons_append}
use Rattle.cdcl_learn.specs.Learning.{is_assumed}
use Rattle.cdcl_learn.specs.declared.learning.Learned.{Learned}
use Rattle.cdcl_learn.proofs.FreshLaws.{IsFresh, AreFresh, fresh_trail}

abbrev Has : List Lit → Lit → Type 0
Has lits a = has_literal lits a ≡ true

-- The step of a literal, between what came before and what came behind.
pub record Stands (steps : List Step) (place : ℕ) (u : Lit) : Type 0 where
  pub front : List Step
  pub at : Step
  pub more : List Step
  pub whole : steps ≡ front ++ at ∷ more
  pub literal : at.literal ≡ u
  pub literals : take place (literals_of steps) ≡ literals_of front
  pub reasons : take place (reasons_in steps) ≡ reasons_in front
  pub reason : slice_get (reasons_in steps) place ≡ Some at.reason

pub stands_at : (steps : List Step) (place : ℕ) (u : Lit) → slice_get (literals_of steps) place ≡ Some u → Stands steps place u
stands_at [] place u is = absurd (none-some u is)
stands_at (x ∷ steps) zero u is = record {
  front = [];
  at = x;
  more = steps;
  whole = refl;
  literal = same_Some x.literal u is;
  literals = refl;
  reasons = refl;
  reason = refl;
}
stands_at (x ∷ steps) (suc place) u is =
    let s = stands_at steps place u is in
    record {
      front = x ∷ s.front;
      at = s.at;
      more = s.more;
      whole = ap (λ xs. x ∷ xs) s.whole;
      literal = s.literal;
      literals = ap (λ xs. x.literal ∷ xs) s.literals;
      reasons = ap (λ xs. x.reason ∷ xs) s.reasons;
      reason = s.reason;
    }

steps_again : (steps : List Step) (a : Lit) → steps_from (literals_of steps ++ a ∷ []) (reasons_in steps ++ None ∷ []) ≡ steps ++ assumed a ∷ []
steps_again [] a = refl
steps_again (x ∷ steps) a = ap (λ xs. x ∷ xs) (steps_again steps a)

first_fresh : (clauses : List (List Lit)) (before front : List Step) (at : Step) (more : List Step) → AreFresh clauses before (front ++ at ∷ more) → IsFresh clauses (before ++ front) at
first_fresh clauses before [] at more all = subst (λ b. IsFresh clauses b at) (sym (append-nil before)) all.0
first_fresh clauses before (x ∷ front) at more all =
    subst (λ b. IsFresh clauses b at) (append_assoc before (x ∷ []) front) (first_fresh clauses (before ++ x ∷ []) front at more all.1)

pub first_reasons : (clauses : List (List Lit)) (before xs ys : List Step) → HaveReasons clauses before (xs ++ ys) → HaveReasons clauses before xs
first_reasons clauses before [] ys all = tt
first_reasons clauses before (x ∷ xs) ys all = (all.0, first_reasons clauses (before ++ x ∷ []) xs ys all.1)

any_first : (f : Lit → Bool) (xs ys : List Step) → list_any f (literals_of (xs ++ ys)) ≡ false → list_any f (literals_of xs) ≡ false
any_first f [] ys e = refl
any_first f (x ∷ xs) ys e = let parts = or_neither _ _ e in or_both _ _ parts.0 (any_first f xs ys parts.1)

once_first : (xs ys : List Step) → once (literals_of (xs ++ ys)) ≡ true → once (literals_of xs) ≡ true
once_first [] ys e = refl
once_first (x ∷ xs) ys e =
    let parts = and_parts _ _ e in
    and_from _ _ (not-false _ (any_first (λ b. eqb b.var x.literal.var) xs ys (not-true _ parts.0))) (once_first xs ys parts.1)

no_place-of : (xs : List Step) (v : ℕ) → value_of xs v ≡ None → place_in (literals_of xs) v ≡ None
no_place-of [] v e = refl
no_place-of (x ∷ xs) v e =
    elim (either (eqb x.literal.var v)) [
      | inl here ↦ absurd (none-some x.literal.positive (sym e ∙ ap (option_map (λ (s : Step). s.literal.positive)) (cond-true (eqb x.literal.var v) (Some x) (step_of xs v) here)))
      | inr differs ↦
          cond-false (eqb x.literal.var v) (Some 0) (option_map (λ place. place + 1) (place_in (literals_of xs) v)) differs
          ∙ ap (option_map (λ place. place + 1)) (no_place-of xs v (sym (ap (option_map (λ (s : Step). s.literal.positive)) (cond-false (eqb x.literal.var v) (Some x) (step_of xs v) differs)) ∙ e))
    ]

stands_assumed : (front : List Step) (at : Step) (more : List Step) → at.reason ≡ None → is_assumed (front ++ at ∷ more) at.literal ≡ true
stands_assumed [] at more none = or_left _ _ (and_from _ _ (lit_eq-same at.literal) (ap is_none none))
stands_assumed (x ∷ front) at more none = or_right _ _ (stands_assumed front at more none)

-- what the walk over the shorter trail asks for
pub record IsCut (clauses : List (List Lit)) (lits : List Lit) (reasons : List (Option ℕ)) (number : ℕ) : Type 0 where
  pub beside : length reasons ≡ length lits
  pub apart : once lits ≡ true
  pub conflict : IsConflict clauses (steps_from lits reasons) number
  pub reasoned : IsReasonedTrail clauses (steps_from lits reasons)

pub true_last : (steps : List Step) (a : Lit) → value_of steps a.var ≡ None → is_true (steps ++ assumed a ∷ []) a ≡ true
true_last steps a none =
    ap (λ o. is_value (option_map (λ (s : Step). s.literal.positive) o) a.positive) (step_comes steps (assumed a) (no_step _ none)) ∙ bool_eq-same a.positive

length_both : (steps : List Step) (a : Lit) → length (reasons_in steps ++ None ∷ []) ≡ length (literals_of steps ++ a ∷ [])
length_both [] a = refl
length_both (x ∷ steps) a = ap suc (length_both steps a)

pub cut_at : (clauses : List (List Lit)) (steps : List Step) (p : Lit) (place number : ℕ) (lits : List Lit) (reasons : List (Option ℕ)) → Stands steps place (negation p)
    → once (literals_of steps) ≡ true → IsReasonedTrail clauses steps → is_assumed steps (negation p) ≡ false
    → number ≡ unwrap_or (option_flatten (slice_get (reasons_in steps) place)) 0
    → lits ≡ take place (literals_of steps) ++ p ∷ [] → reasons ≡ take place (reasons_in steps) ++ None ∷ [] → IsCut clauses lits reasons number
cut_at clauses steps p place number lits reasons s apart reasoned not_assumed told is is_too =
    let now : List Step = s.front ++ assumed p ∷ [] in
    let lits_are : lits ≡ literals_of s.front ++ p ∷ [] = is ∙ ap (λ ls. ls ++ p ∷ []) s.literals in
    let reasons_are : reasons ≡ reasons_in s.front ++ None ∷ [] = is_too ∙ ap (λ rs. rs ++ None ∷ []) s.reasons in
    let steps_are : steps_from lits reasons ≡ now = ap (λ ls. steps_from ls reasons) lits_are ∙ ap (steps_from (literals_of s.front ++ p ∷ [])) reasons_are ∙ steps_again s.front p in
    let fresh = first_fresh clauses [] s.front s.at s.more
    (subst (λ xs. AreFresh clauses [] xs) s.whole (fresh_trail clauses steps (literals_of steps) refl apart reasoned)) in
    let none : value_of s.front p.var ≡ None = ap (λ (a : Lit). value_of s.front a.var) (sym s.literal) ∙ fresh.fresh in
    let forced : IsForced clauses s.front s.at =
    elim fresh.source [
      | inl assumed_too ↦ absurd (false≢true (sym not_assumed ∙ ap (is_assumed steps) (sym s.literal) ∙ ap (λ xs. is_assumed xs s.at.literal) s.whole ∙ stands_assumed s.front s.at s.more assumed_too))
      | inr f ↦ f
    ] in
    let same : number ≡ forced.number = told ∙ ap (λ o. unwrap_or (option_flatten o) 0) (s.reason ∙ ap Some forced.reason) in
    let unit : is_unit_for s.front forced.clause (negation p) ≡ true = ap (is_unit_for s.front forced.clause) (sym s.literal) ∙ forced.left in
    record {
      beside = ap length reasons_are ∙ length_both s.front p ∙ sym (ap length lits_are);
      apart = ap once lits_are
          ∙ once_push (literals_of s.front) p (once_first s.front (s.at ∷ s.more) (ap (λ xs. once (literals_of xs)) (sym s.whole) ∙ apart)) (no_place-of s.front p.var none);
      conflict = (
        forced.clause,
        ap (clause_numbered clauses) same ∙ forced.held,
        ap (λ xs. is_falsified xs forced.clause) steps_are
            ∙ all_from (is_false now) forced.clause (λ b has. elim (either (lit_eq (negation p) b)) [
              | inl here ↦ ap (is_false now) (sym (lit_eq-true (negation p) b here)) ∙ ap (is_true now) (negation_twice p) ∙ true_last s.front p none
              | inr other ↦ false_more s.front (assumed p ∷ []) b (unit_others s.front forced.clause (negation p) b unit has other)
            ]),
      );
      reasoned = subst (λ xs. IsReasonedTrail clauses xs) (sym steps_are)
          (reasons_append clauses [] s.front (assumed p ∷ []) (first_reasons clauses [] s.front (s.at ∷ s.more) (subst (λ xs. IsReasonedTrail clauses xs) s.whole reasoned)) (inl refl, tt));
    }

any_of_first : (xs : List Step) (p b : Lit) (ys : List Step) → is_assumed (xs ++ assumed p ∷ []) b ≡ true → (is_assumed (xs ++ ys) b ≡ true) ⊎ (b ≡ p)
any_of_first [] p b ys e =
    elim (or_cases (lit_eq p b && true) false e) [
      | inl here ↦ inr (sym (lit_eq-true p b (and_parts (lit_eq p b) true here).0))
      | inr nothing ↦ absurd (false≢true nothing)
    ]
any_of_first (x ∷ xs) p b ys e =
    elim (or_cases (lit_eq x.literal b && is_none x.reason) (is_assumed (xs ++ assumed p ∷ []) b) e) [
      | inl here ↦ inl (or_left _ _ here)
      | inr later ↦ elim (any_of_first xs p b ys later) [ inl found ↦ inl (or_right _ _ found) | inr same ↦ inr same ]
    ]

-- what is assumed on the shorter trail is assumed on the trail, or the literal
pub cut_assumed : (steps : List Step) (p b : Lit) (place : ℕ) (lits : List Lit) (reasons : List (Option ℕ)) → Stands steps place (negation p)
    → lits ≡ take place (literals_of steps) ++ p ∷ [] → reasons ≡ take place (reasons_in steps) ++ None ∷ []
    → is_assumed (steps_from lits reasons) b ≡ true → (is_assumed steps b ≡ true) ⊎ (b ≡ p)
cut_assumed steps p b place lits reasons s is is_too e =
    let steps_are : steps_from lits reasons ≡ s.front ++ assumed p ∷ [] =
    ap (λ ls. steps_from ls reasons) (is ∙ ap (λ ls. ls ++ p ∷ []) s.literals)
    ∙ ap (steps_from (literals_of s.front ++ p ∷ [])) (is_too ∙ ap (λ rs. rs ++ None ∷ []) s.reasons) ∙ steps_again s.front p in
    elim (any_of_first s.front p b (s.at ∷ s.more) (ap (λ xs. is_assumed xs b) (sym steps_are) ∙ e)) [
      | inl found ↦ inl (ap (λ xs. is_assumed xs b) s.whole ∙ found)
      | inr same ↦ inr same
    ]

-- Steps and their values.

pub step_found : (steps : List Step) (v : ℕ) (x : Step) → step_of steps v ≡ Some x → (x.literal.var ≡ v) × Has (literals_of steps) x.literal
step_found [] v x e = absurd (none-some x e)
step_found (y ∷ steps) v x e =
    elim (either (eqb y.literal.var v)) [
      | inl same ↦
          let is : y ≡ x = same_Some y x (sym (cond-true (eqb y.literal.var v) (Some y) (step_of steps v) same) ∙ e) in (
            sym (ap (λ (s : Step). s.literal.var) is) ∙ eqb-true y.literal.var v same,
            or_left _ _ (ap (λ (s : Step). lit_eq x.literal s.literal) is ∙ lit_eq-same x.literal),
          )
      | inr differs ↦
          let later = step_found steps v x (sym (cond-false (eqb y.literal.var v) (Some y) (step_of steps v) differs) ∙ e) in
          (later.0, or_right _ _ later.1)
    ]

pub valued_step : (o : Option Step) (b : Bool) → is_value (option_map (λ (s : Step). s.literal.positive) o) b ≡ true → (x : Step) × (o ≡ Some x) × (x.literal.positive ≡ b)
valued_step None b e = absurd (false≢true e)
valued_step (Some x) b e = (x, refl, bool_eq-true x.literal.positive b e)

-- what is true stands on the trail
pub true_stands : (steps : List Step) (a : Lit) → is_true steps a ≡ true → Has (literals_of steps) a
true_stands steps a e =
    let found = valued_step (step_of steps a.var) a.positive e in
    let x = found.0 in
    let stands = step_found steps a.var x found.1 in
    let same : x.literal ≡ a = same_lit x.literal a stands.0 found.2 in
    subst (λ b. Has (literals_of steps) b) same stands.1

-- what is false stands there negated
pub false_stands : (steps : List Step) (a : Lit) → is_false steps a ≡ true → Has (literals_of steps) (negation a)
false_stands steps a e = true_stands steps (negation a) e

step_place : (steps : List Step) (v : ℕ) (x : Step) → step_of steps v ≡ Some x → (p : ℕ) × (place_in (literals_of steps) v ≡ Some p) × (slice_get (literals_of steps) p ≡ Some x.literal)
step_place [] v x e = absurd (none-some x e)
step_place (y ∷ steps) v x e =
    elim (either (eqb y.literal.var v)) [
      | inl same ↦ (
        0,
        cond-true (eqb y.literal.var v) (Some 0) (option_map (λ place. place + 1) (place_in (literals_of steps) v)) same,
        ap (λ (s : Step). Some s.literal) (same_Some y x (sym (cond-true (eqb y.literal.var v) (Some y) (step_of steps v) same) ∙ e)),
      )
      | inr differs ↦
          let later = step_place steps v x (sym (cond-false (eqb y.literal.var v) (Some y) (step_of steps v) differs) ∙ e) in (
            suc later.0,
            cond-false (eqb y.literal.var v) (Some 0) (option_map (λ place. place + 1) (place_in (literals_of steps) v)) differs
                ∙ ap (option_map (λ place. place + 1)) later.1 ∙ ap Some (one_more_is later.0),
            later.2,
          )
    ]
  where
    one_more_is : (i : ℕ) → i + 1 ≡ suc i
    one_more_is i = omega arith

-- where a literal is false, its negation stands at the place that is told of its variable
pub stands_told : (steps : List Step) (a : Lit) (place : ℕ) (told : Option ℕ) → place ≡ unwrap_or told 0 → told ≡ place_in (literals_of steps) a.var
    → is_false steps a ≡ true → slice_get (literals_of steps) place ≡ Some (negation a)
stands_told steps a place told is told_is e =
    let found = valued_step (step_of steps a.var) (negation a).positive e in
    let x = found.0 in
    let stands = step_found steps a.var x found.1 in
    let at = step_place steps a.var x found.1 in
    ap (slice_get (literals_of steps)) (is ∙ ap (λ o. unwrap_or o 0) (told_is ∙ at.1)) ∙ at.2 ∙ ap Some (same_lit x.literal (negation a) stands.0 found.2)

-- a trail is made of its literals and reasons
pub steps_own : (steps : List Step) → steps_from (literals_of steps) (reasons_in steps) ≡ steps
steps_own [] = refl
steps_own (x ∷ steps) = ap (λ xs. x ∷ xs) (steps_own steps)

pub beside_own : (steps : List Step) → length (reasons_in steps) ≡ length (literals_of steps)
beside_own [] = refl
beside_own (x ∷ steps) = ap suc (beside_own steps)

pub place_within : (steps : List Step) (literals : List Lit) (place : ℕ) (u : Lit) → literals ≡ literals_of steps → slice_get literals place ≡ Some u
    → (place ≤ length literals) × (place ≤ length (reasons_in steps))
place_within steps literals place u same is =
    let below : place < length literals = slice_get_within literals place u is in
    (omega (arith, below), omega (arith, below, ap length same, beside_own steps))

-- what the walk over the shorter trail told
pub on_traced : {E : Type 0} (steps : List Step) (p : Lit) (place : ℕ) (lits : List Lit) (reasons : List (Option ℕ)) (result : Result Learned E) → Stands steps place (negation p)
    → lits ≡ take place (literals_of steps) ++ p ∷ [] → reasons ≡ take place (reasons_in steps) ++ None ∷ []
    → IfOk result (λ traced. (a : Lit) → Has traced.clause a → is_assumed (steps_from lits reasons) (negation a) ≡ true)
    → IfOk result (λ traced. (a : Lit) → Has traced.clause a → (is_assumed steps (negation a) ≡ true) ⊎ (negation a ≡ p))
on_traced steps p place lits reasons (Ok traced) s is is_too told = λ a has. cut_assumed steps p (negation a) place lits reasons s is is_too (told a has)
on_traced steps p place lits reasons (Err e) s is is_too told = tt
