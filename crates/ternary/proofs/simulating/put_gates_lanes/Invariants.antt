use Rattle.std.proofs.Common.{◌≡◌, ℕ, ◌<◌, fold, take}
use Rattle.ternary.specs.Lanes.{in_lane}
use Rattle.ternary.specs.Writing.{with_gate3}
use Rattle.ternary.proofs.simulating.put_gates_lanes.Given as goal

abbrev pub invariant-loop-gate : goal.invariant-loop-gate
invariant-loop-gate l = (k : ℕ) → k < 64 → in_lane k l.out ≡ fold with_gate3 (in_lane k l.initial.out) (take l.gate-index l.order)
