-- Along runs and round loops: what lies in a set that no allowed step leaves.
use Rattle.std.proofs.Common.{◌≡◌, ℕ, zero, suc, ◌+◌, ◌-◌, ◌<◌, Bool, true, false, List, [], ◌∷◌, length, drop, get_or, refl, sym, ap, ◌∙◌, inl, inr, arith, length-drop, get_or-drop, ◌++◌, subst, Some, slice_get}
use Rattle.std.specs.List.{All}
use Rattle.std.proofs.lemmas.Bool.{both_ways, cases_Bool}
use Rattle.std.proofs.lemmas.Option.{get_or_from_slice_get}
use Rattle.std.proofs.lemmas.List.Elements.{All-head, All-tail, All-cons, All-nil}
use Rattle.aig_semantics.specs.declared.traces.Position.{Position}
use Rattle.aig_semantics.specs.Circuits.{Circuit}
use Rattle.aig_semantics.specs.Runs.{successor, StartsIn, IsRun, IsInitialRun, IsFairLasso, IsInitial}
use Rattle.fair_semantics.specs.Validity.{NoStepLeaves}
use Rattle.fair_semantics.specs.Laws.{LieOn}

-- the step from each of these positions is allowed
abbrev pub AreAllowed : Circuit → (List (List Bool) → Bool) → List Position → Type 0
AreAllowed c allowed positions = All (λ p. allowed (p.latches ∷ successor c p ∷ []) ≡ true) positions

-- a run that begins in the set stays there
pub along : (c : Circuit) (allowed : List (List Bool) → Bool) (set : List Bool → Bool) → NoStepLeaves c allowed set
    → (s : List Bool) (run : List Position) → IsRun c run → StartsIn s run → AreAllowed c allowed run → set s ≡ true → LieOn c true set run
along c allowed set closed s [] is_run starts able inside = All-nil (λ p. (set p.latches ≡ true) × (set (successor c p) ≡ true))
along c allowed set closed s (p ∷ run) is_run starts able inside =
    let Able : Position → Type 0 = λ q. allowed (q.latches ∷ successor c q ∷ []) ≡ true in
    let Lies : Position → Type 0 = λ q. (set q.latches ≡ true) × (set (successor c q) ≡ true) in
    let here : set p.latches ≡ true = ap set starts ∙ inside in
    let next : set (successor c p) ≡ true =
    closed p.latches (successor c p) (record { position = p; possible = is_run.0; begins = refl; ends = refl }) (All-head Able p run able) here
    in
    All-cons Lies p run (here, next) (along c allowed set closed (successor c p) run is_run.2 is_run.1 (All-tail Able p run able) next)

-- where a run from a state ends
abbrev pub end_of : Circuit → List Bool → List Position → List Bool
end_of c s [] = s
end_of c s (p ∷ run) = end_of c (successor c p) run

-- a run that ends outside the set was never in it
pub back : (c : Circuit) (allowed : List (List Bool) → Bool) (set : List Bool → Bool) → NoStepLeaves c allowed set
    → (s : List Bool) (run : List Position) → IsRun c run → StartsIn s run → AreAllowed c allowed run → set (end_of c s run) ≡ false
    → (set s ≡ false) × LieOn c false set run
back c allowed set closed s [] is_run starts able outside = (outside, All-nil (λ p. (set p.latches ≡ false) × (set (successor c p) ≡ false)))
back c allowed set closed s (p ∷ run) is_run starts able outside =
    let Able : Position → Type 0 = λ q. allowed (q.latches ∷ successor c q ∷ []) ≡ true in
    let Lies : Position → Type 0 = λ q. (set q.latches ≡ false) × (set (successor c q) ≡ false) in
    let rest = back c allowed set closed (successor c p) run is_run.2 is_run.1 (All-tail Able p run able) outside in
    let here : set p.latches ≡ false =
    elim (cases_Bool (set p.latches)) [
      | inl inside ↦
          let next : set (successor c p) ≡ true =
          closed p.latches (successor c p) (record { position = p; possible = is_run.0; begins = refl; ends = refl }) (All-head Able p run able) inside
          in
          absurd (both_ways (set (successor c p)) rest.0 next)
      | inr out ↦ out
    ]
    in
    (ap set (sym starts) ∙ here, All-cons Lies p run (here, rest.0) rest.1)

-- a run that ends where it begins keeps its side
pub round : (c : Circuit) (allowed : List (List Bool) → Bool) (set : List Bool → Bool) → NoStepLeaves c allowed set
    → (s : List Bool) (run : List Position) → IsRun c run → StartsIn s run → AreAllowed c allowed run → end_of c s run ≡ s
    → (side : Bool) × LieOn c side set run
round c allowed set closed s run is_run starts able ends =
    elim (cases_Bool (set s)) [
      | inl inside ↦ (true, along c allowed set closed s run is_run starts able inside)
      | inr outside ↦ (false, (back c allowed set closed s run is_run starts able (ap set ends ∙ outside)).1)
    ]

-- ---- the loop of a lasso

run-later : (c : Circuit) (from : ℕ) (run : List Position) → IsRun c run → IsRun c (drop from run)
run-later c zero run h = h
run-later c (suc from) [] h = tt
run-later c (suc from) (p ∷ run) h = run-later c from run h.2

starts-at : (from : ℕ) (run : List Position) (first : Position) → get_or run from first ≡ first → StartsIn first.latches (drop from run)
starts-at zero [] first h = tt
starts-at zero (p ∷ run) first h = ap (λ q. q.latches) h
starts-at (suc from) [] first h = tt
starts-at (suc from) (p ∷ run) first h = starts-at from run first h

end-at : (c : Circuit) (s : List Bool) (run : List Position) (k : ℕ) (last : Position) → suc k ≡ length run → get_or run k last ≡ last
    → end_of c s run ≡ successor c last
end-at c s [] k last place h = absurd (omega arith)
end-at c s (p ∷ []) zero last place h = ap (successor c) h
end-at c s (p ∷ []) (suc k) last place h = absurd (omega arith)
end-at c s (p ∷ q ∷ run) zero last place h = absurd (omega arith)
end-at c s (p ∷ q ∷ run) (suc k) last place h = end-at c (successor c p) (q ∷ run) k last (omega arith) h

pub run-of : (c : Circuit) (run : List Position) → IsInitialRun c run → IsRun c run
run-of c [] h = tt
run-of c (p ∷ run) h = h.1

pub initial-run : (c : Circuit) (s : List Bool) (run : List Position) → IsInitial c s → StartsIn s run → IsRun c run → IsInitialRun c run
initial-run c s [] initial starts h = tt
initial-run c s (p ∷ run) initial starts h = (subst (IsInitial c) (sym starts) initial, h)

-- the element behind a list
pub get-seam : {X : Type 0} (xs : List X) (y : X) (ys : List X) → slice_get (xs ++ y ∷ ys) (length xs) ≡ Some y
get-seam [] y ys = refl
get-seam (x ∷ xs) y ys = get-seam xs y ys

-- the loop is a run that ends where it begins
pub record IsLoop (c : Circuit) (loop : List Position) : Type 0 where
  pub begins : List Bool
  pub run : IsRun c loop
  pub starts : StartsIn begins loop
  pub ends : end_of c begins loop ≡ begins
  pub some : 0 < length loop

pub loop-of : (c : Circuit) (j : ℕ) (run : List Position) (from : ℕ) → IsFairLasso c j run from → IsLoop c (drop from run)
loop-of c j run from lasso =
    let first : Position = lasso.closes.first in
    let last : Position = lasso.closes.last in
    let inside : from < length run = lasso.inside in
    let at_first : get_or run from first ≡ first = get_or_from_slice_get run from first first lasso.closes.is_first in
    let at_last : get_or run (length run - 1) last ≡ last = get_or_from_slice_get run (length run - 1) last last lasso.closes.is_last in
    let k : ℕ = length run - 1 - from in
    let place : from + k ≡ length run - 1 = omega arith in
    let size : suc k ≡ length (drop from run) = simp length-drop (omega arith) in
    let at_end : get_or (drop from run) k last ≡ last = get_or-drop from run k last ∙ ap (λ i. get_or run i last) place ∙ at_last in
    record {
      begins = first.latches;
      run = run-later c from run (run-of c run lasso.initial);
      starts = starts-at from run first at_first;
      ends = end-at c first.latches (drop from run) k last size at_end ∙ lasso.closes.closes;
      some = omega arith;
    }
