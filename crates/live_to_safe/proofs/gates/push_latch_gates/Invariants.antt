use Rattle.std.proofs.Common.{◌≡◌, ◌++◌, drop}
use Rattle.live_to_safe.specs.Watching.{for_each, latch_gates}
use Rattle.live_to_safe.proofs.gates.push_latch_gates.Given as goal

abbrev pub invariant-loop-i : goal.invariant-loop-i
invariant-loop-i l =
    l.gates.items ++ for_each (latch_gates l.z) l.i (drop l.i l.latches) ≡ l.initial.gates.items ++ for_each (latch_gates l.z) 0 l.latches
