-- Each lane of what is written into a list of lanes.
use Rattle.std.proofs.Common.{◌≡◌, ℕ, zero, suc, List, [], ◌∷◌, map, set, replicate, refl, ap, ◌∙◌}
use Rattle.std.proofs.lemmas.List.{map-set}
use Rattle.aig_semantics.specs.declared.parts.Gate.{Gate}
use Rattle.ternary.specs.declared.values.Value3.{Value3}
use Rattle.ternary.specs.declared.values.Value3.TheVariants.{Zero}
use Rattle.ternary.specs.declared.lanes.Lanes.{Lanes}
use Rattle.ternary.specs.Values.{variable3_in}
use Rattle.ternary.specs.Simulation.{conjunction3}
use Rattle.ternary.specs.Lanes.{lane_of, in_lane}
use Rattle.ternary.specs.Writing.{with_values3, with_gate3}

pub map-with_values3 : {T : Type 0} (f : T → Value3) (vs : List ℕ) (given out : List T) → map f (with_values3 vs given out) ≡ with_values3 vs (map f given) (map f out)
unfolding with_values3
map-with_values3 f [] given out = refl
map-with_values3 f (v ∷ vs) [] out = refl
map-with_values3 f (v ∷ vs) (b ∷ given) out =
    map-with_values3 f vs given (set out v b) ∙ ap (λ xs. with_values3 vs (map f given) xs) (map-set f out v b)

pub map-zeros : {T U : Type 0} (f : T → U) (n : ℕ) (x : T) → map f (replicate n x) ≡ replicate n (f x)
map-zeros f zero x = refl
map-zeros f (suc n) x = ap (λ xs. f x ∷ xs) (map-zeros f n x)

pub in_lane-gate : (k : ℕ) (out : List Lanes) (gate : Gate) (lanes : Lanes) → lane_of lanes k ≡ conjunction3 (variable3_in (in_lane k out)) gate → in_lane k (set out gate.var lanes) ≡ with_gate3 (in_lane k out) gate
unfolding with_gate3
in_lane-gate k out gate lanes e =
    map-set (λ x. lane_of x k) out gate.var lanes ∙ ap (λ x. set (in_lane k out) gate.var x) e

-- Lane k of inputs and latches that are put on a list of zeros.
pub in_lane-given : (k : ℕ) (vs us : List ℕ) (inputs latches : List Lanes) (n : ℕ) (zero_lanes : Lanes) → lane_of zero_lanes k ≡ Zero → in_lane k (with_values3 us latches (with_values3 vs inputs (replicate n zero_lanes))) ≡ with_values3 us (in_lane k latches) (with_values3 vs (in_lane k inputs) (replicate n Zero))
in_lane-given k vs us inputs latches n zero_lanes e =
    map-with_values3 (λ x. lane_of x k) us latches (with_values3 vs inputs (replicate n zero_lanes))
    ∙ ap (λ xs. with_values3 us (in_lane k latches) xs)
    (map-with_values3 (λ x. lane_of x k) vs inputs (replicate n zero_lanes)
    ∙ ap (λ xs. with_values3 vs (in_lane k inputs) xs) (map-zeros (λ x. lane_of x k) n zero_lanes ∙ ap (λ x. replicate n x) e))
