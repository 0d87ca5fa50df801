-- What is left of runs: a fair lasso without what is outside the cone is one of the slice.
use Rattle.std.proofs.Common.{◌≡◌, ℕ, zero, suc, ◌-◌, Bool, List, [], ◌∷◌, map, length, drop, get_or, refl, sym, ap, ◌∙◌, subst, arith, Some}
use Rattle.std.specs.Prelude.{IsTrue, slice_get}
use Rattle.std.specs.List.{All, Any}
use Rattle.std.proofs.lemmas.Option.{same_Some, none-some}
use Rattle.std.proofs.lemmas.List.{length-map, get_or-map}
use Rattle.std.proofs.lemmas.List.Elements.{All-nil, All-cons, All-head, All-tail, All-drop}
use Rattle.aig_semantics.specs.declared.traces.Position.{Position}
use Rattle.aig_semantics.specs.Literals.{variable_of}
use Rattle.aig_semantics.specs.Circuits.{Circuit, fair_literals}
use Rattle.aig_semantics.specs.Runs.{IsPosition, literal_at, successor, StartsIn, IsRun, AgreesWith, IsInitialRun}
use Rattle.aig_semantics.specs.Valuations.{HasOneValuation}
use Rattle.fair_semantics.proofs.Runs.{end_of, run-of}
use Rattle.cone.specs.Cones.{IsClosed}
use Rattle.live_to_safe.specs.BadRuns.{HasFairLasso}
use Rattle.slice.specs.Slicing.{sliced_circuit}
use Rattle.slice.proofs.Picking.{pick-zip}
use Rattle.slice.proofs.Valued.{state_left, left_of, fair-in, literal-is, successor-is, constraints-left}

-- ---- lists

get-map : {X Y : Type 0} (f : X → Y) (xs : List X) (k : ℕ) (x : X) → slice_get xs k ≡ Some x → slice_get (map f xs) k ≡ Some (f x)
get-map f [] k x e = absurd (none-some x e)
get-map f (y ∷ xs) zero x e = ap (λ z. Some (f z)) (same_Some y x e)
get-map f (y ∷ xs) (suc k) x e = get-map f xs k x e

all-get : {X : Type 0} (P : X → Type 0) (xs : List X) (k : ℕ) (x : X) → All P xs → slice_get xs k ≡ Some x → P x
all-get P [] k x all e = absurd (none-some x e)
all-get P (y ∷ xs) zero x all e = subst P (same_Some y x e) (All-head P y xs all)
all-get P (y ∷ xs) (suc k) x all e = all-get P xs k x (All-tail P y xs all) e

drop-map : {X Y : Type 0} (f : X → Y) (k : ℕ) (xs : List X) → drop k (map f xs) ≡ map f (drop k xs)
drop-map f zero xs = refl
drop-map f (suc k) [] = refl
drop-map f (suc k) (x ∷ xs) = drop-map f k xs

pub run-positions : (c : Circuit) (run : List Position) → IsRun c run → All (IsPosition c) run
run-positions c [] h = All-nil (IsPosition c)
run-positions c (p ∷ run) h = All-cons (IsPosition c) p run h.0.position (run-positions c run h.2)

module _ (c : Circuit) (j : ℕ) (set : ℕ → Bool) (closed : IsClosed c j set) (one : HasOneValuation c) (other : HasOneValuation (sliced_circuit c j set)) where
  abbrev t : Circuit
  t = sliced_circuit c j set

  abbrev left : Position → Position
  left p = left_of c set p

  abbrev state : List Bool → List Bool
  state s = state_left c set s

  starts-left : (s : List Bool) (run : List Position) → StartsIn s run → StartsIn (state s) (map left run)
  starts-left s [] h = tt
  starts-left s (p ∷ run) h = ap state h

  run-left : (run : List Position) → IsRun c run → IsRun t (map left run)
  run-left [] h = tt
  run-left (p ∷ run) h = (
    constraints-left c j set closed one other p h.0.position h.0,
    subst (λ s. StartsIn s (map left run)) (sym (successor-is c j set closed one other p h.0.position)) (starts-left (successor c p) run h.1),
    run-left run h.2,
  )

  pub end-left : (s : List Bool) (run : List Position) → IsRun c run → end_of t (state s) (map left run) ≡ state (end_of c s run)
  end-left s [] h = refl
  end-left s (p ∷ run) h =
      ap (λ s. end_of t s (map left run)) (successor-is c j set closed one other p h.0.position) ∙ end-left (successor c p) run h.2

  initial-left : (run : List Position) → IsInitialRun c run → IsInitialRun t (map left run)
  initial-left [] h = tt
  initial-left (p ∷ run) h = (
    pick-zip (λ latch. set latch.var) (λ latch value. AgreesWith latch.reset value) c.latches p.latches h.0,
    run-left (p ∷ run) h.1,
  )

  any-left : (literal : ℕ) → IsTrue (set (variable_of literal)) → (run : List Position) → All (IsPosition c) run
      → Any (λ p. IsTrue (literal_at c p literal)) run → Any (λ p. IsTrue (literal_at t p literal)) (map left run)
  any-left literal there run all (k, p, below, at, h) =
      let is : IsPosition c p = subst (IsPosition c) at (all k p below) in (
        k,
        left p,
        omega (arith, below, length-map run left),
        get_or-map left run k p (left p) below ∙ ap left at,
        literal-is c j set closed one other p is literal there ∙ h,
      )

  pub any-back : (literal : ℕ) → IsTrue (set (variable_of literal)) → (run : List Position) → All (IsPosition c) run
      → Any (λ p. IsTrue (literal_at t p literal)) (map left run) → Any (λ p. IsTrue (literal_at c p literal)) run
  any-back literal there [] all (k, p, below, at, h) = absurd (omega (arith, below))
  any-back literal there (q ∷ run) all (zero, p, below, at, h) =
      let is : IsPosition c q = All-head (IsPosition c) q run all in (
        0,
        q,
        omega arith,
        refl,
        sym (literal-is c j set closed one other q is literal there) ∙ ap (λ r. literal_at t r literal) at ∙ h,
      )
  any-back literal there (q ∷ run) all (suc k, p, below, at, h) =
      let rest = any-back literal there run (All-tail (IsPosition c) q run all) (k, p, omega (arith, below), at, h) in
      (suc rest.0, rest.1, (let a = rest.2 in omega (arith, a)), rest.3, rest.4)

  pub from_circuit : HasFairLasso c j → HasFairLasso t 0
  from_circuit (run, from, lasso) =
      let all : All (IsPosition c) run = run-positions c run (run-of c run lasso.initial) in
      let size : length (map left run) ≡ length run = length-map run left in
      let last = lasso.closes.last in
      let is : IsPosition c last = all-get (IsPosition c) run (length run - 1) last all lasso.closes.is_last in (
        map left run,
        from,
        record {
          property = omega arith;
          initial = initial-left run lasso.initial;
          inside = (let a = lasso.inside in omega (arith, a, size));
          closes = record {
            first = left lasso.closes.first;
            last = left last;
            is_first = get-map left run from lasso.closes.first lasso.closes.is_first;
            is_last = ap (λ n. slice_get (map left run) (n - 1)) size ∙ get-map left run (length run - 1) last lasso.closes.is_last;
            closes = successor-is c j set closed one other last is ∙ ap state lasso.closes.closes;
          };
          fair = λ k d below.
              subst (λ ps. Any (λ p. IsTrue (literal_at t p (get_or (fair_literals c j) k d))) ps) (sym (drop-map left from run))
              (any-left (get_or (fair_literals c j) k d) (fair-in c j set closed k d below) (drop from run) (All-drop (IsPosition c) from run all)
              (lasso.fair k d below));
        },
      )
