use Rattle.std.proofs.Common.{◌≡◌, ◌++◌}
use Rattle.live_to_safe.specs.Watching.{numbered, copy_latch}
use Rattle.live_to_safe.proofs.latches.push_copies.Given as goal

abbrev pub invariant-loop-i : goal.invariant-loop-i
invariant-loop-i l = l.all ≡ l.initial.all ++ numbered (copy_latch l.z) 0 l.i
