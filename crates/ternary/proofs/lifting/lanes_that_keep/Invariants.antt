use Rattle.std.proofs.Common.{◌≡◌, ◌<◌, ◌↔◌, ℕ, take}
use Rattle.std.specs.Int.{bit_at}
use Rattle.ternary.specs.Lanes.{in_lane}
use Rattle.ternary.specs.Lifting.{AreOne}
use Rattle.ternary.proofs.lifting.lanes_that_keep.Given as goal

abbrev pub invariant-loop-literal : goal.invariant-loop-literal
invariant-loop-literal l = (k : ℕ) → k < 64 → ((bit_at l.lanes k ≡ 1) ↔ AreOne (in_lane k l.values) (take l.literal-index l.keep))
