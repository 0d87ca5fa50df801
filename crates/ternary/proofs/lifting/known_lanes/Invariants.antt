use Rattle.std.proofs.Common.{◌≡◌, ◌<◌, ℕ, map, take}
use Rattle.ternary.specs.Values.{known}
use Rattle.ternary.specs.Lanes.{in_lane}
use Rattle.ternary.proofs.lifting.known_lanes.Given as goal

abbrev pub invariant-loop-value : goal.invariant-loop-value
invariant-loop-value l = (k : ℕ) → k < 64 → in_lane k l.list.items ≡ map known (take l.value-index l.values)
