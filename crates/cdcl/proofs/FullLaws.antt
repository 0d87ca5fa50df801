-- A trail with as many variables as a list, all of which are in the list, has each variable of it.
use Rattle.std.proofs.Common.{◌≡◌, ℕ, ◌+◌, ◌<◌, ◌≤◌, Bool, true, false, not, eqb, List, [], ◌∷◌, length}
use Rattle.std.proofs.Common.{Option, Some, None, refl, ap, sym, ◌∙◌, inl, inr, arith, eqb-true}
use Rattle.std.specs.Prelude.{is_some, nat_eq}
use Rattle.std.specs.Option.{option_map}
use Rattle.std.specs.List.{list_any, list_all}
use Rattle.std.proofs.lemmas.Bool.{false≢true, and_parts, and_from, or_cases, or_parts, not-true, cond-true, cond-false, cond_both}
use Rattle.proof_semantics.specs.declared.literals.Lit.{Lit}
use Rattle.cdcl_trail.specs.Trails.{Step, step_of, value_of, literals_of, once}
use Rattle.cdcl.specs.Searching.{open_by, count_open, is_over}
use Rattle.cdcl.proofs.WayLaws.{count_open_small}

without_value : (steps : List Step) (v : ℕ) → list_any (λ (b : Lit). eqb b.var v) (literals_of steps) ≡ false → value_of steps v ≡ None
without_value [] v lacks = refl
without_value (x ∷ steps) v lacks =
    let parts = or_parts (eqb x.literal.var v) (list_any (λ (b : Lit). eqb b.var v) (literals_of steps)) lacks in
    ap (option_map (λ (s : Step). s.literal.positive)) (cond-false (eqb x.literal.var v) (Some x) (step_of steps v) parts.0)
    ∙ without_value steps v parts.1

-- One more step in front.

front_one : (x : Step) (steps : List Step) (w : ℕ) → open_by (value_of (x ∷ steps) w) ≤ open_by (value_of steps w)
front_one x steps w =
    cond_both (eqb x.literal.var w) (Some x) (step_of steps w)
    (λ o. open_by (option_map (λ (s : Step). s.literal.positive) o) ≤ open_by (value_of steps w))
    (λ _. omega arith) (λ _. omega arith)

front_more : (vars : List ℕ) (x : Step) (steps : List Step) → count_open vars (x ∷ steps) ≤ count_open vars steps
front_more [] x steps = omega arith
front_more (w ∷ vars) x steps = omega (arith, front_one x steps w, front_more vars x steps)

front_falls : (vars : List ℕ) (x : Step) (steps : List Step)
    → list_any (nat_eq x.literal.var) vars ≡ true → value_of steps x.literal.var ≡ None
    → count_open vars (x ∷ steps) < count_open vars steps
front_falls [] x steps among none = absurd (false≢true among)
front_falls (w ∷ vars) x steps among none =
    elim (or_cases (nat_eq x.literal.var w) (list_any (nat_eq x.literal.var) vars) among) [
      | inl here ↦
          let same : x.literal.var ≡ w = eqb-true x.literal.var w here in
          let now : open_by (value_of (x ∷ steps) w) ≡ 0 =
          ap (λ o. open_by (option_map (λ (s : Step). s.literal.positive) o))
          (cond-true (eqb x.literal.var w) (Some x) (step_of steps w) here) in
          let before : open_by (value_of steps w) ≡ 1 = ap (λ n. open_by (value_of steps n)) (sym same) ∙ ap open_by none in
          omega (arith, now, before, front_more vars x steps)
      | inr later ↦ omega (arith, front_one x steps w, front_falls vars x steps later none)
    ]

-- As many of the list have a value as there are steps.

filled : (vars : List ℕ) (steps : List Step) → once (literals_of steps) ≡ true → is_over vars (literals_of steps) ≡ true
    → length steps + count_open vars steps ≤ length vars
filled vars [] apart over = omega (arith, count_open_small vars [])
filled vars (x ∷ steps) apart over =
    let parts = and_parts (not (list_any (λ (b : Lit). eqb b.var x.literal.var) (literals_of steps))) (once (literals_of steps)) apart in
    let overs = and_parts (list_any (nat_eq x.literal.var) vars) (is_over vars (literals_of steps)) over in
    let falls = front_falls vars x steps overs.0 (without_value steps x.literal.var (not-true _ parts.0)) in
    omega (arith, falls, filled vars steps parts.1 overs.1)

some_closed : (o : Option Bool) → open_by o ≤ 0 → is_some o ≡ true
some_closed None small = absurd (omega (arith, small))
some_closed (Some b) small = refl

none_open : (vars : List ℕ) (steps : List Step) → count_open vars steps ≤ 0 → list_all (λ v. is_some (value_of steps v)) vars ≡ true
none_open [] steps small = refl
none_open (v ∷ vars) steps small =
    and_from _ _ (some_closed (value_of steps v) (omega (arith, small))) (none_open vars steps (omega (arith, small)))

length_literals : (steps : List Step) → length (literals_of steps) ≡ length steps
length_literals [] = refl
length_literals (x ∷ steps) = omega (arith, length_literals steps)

pub full_counted : (vars : List ℕ) (steps : List Step) (lits : List Lit)
    → lits ≡ literals_of steps → once lits ≡ true → is_over vars (literals_of steps) ≡ true → length vars ≤ length lits
    → list_all (λ v. is_some (value_of steps v)) vars ≡ true
full_counted vars steps lits is apart over long =
    none_open vars steps (omega (arith, filled vars steps (ap once (sym is) ∙ apart) over, ap length is, length_literals steps, long))
