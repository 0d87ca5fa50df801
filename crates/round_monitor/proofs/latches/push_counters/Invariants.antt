use Rattle.std.proofs.Common.{◌≡◌, ◌++◌}
use Rattle.live_to_safe.specs.Watching.{numbered}
use Rattle.round_monitor.specs.Watching.{counter_latch}
use Rattle.round_monitor.proofs.latches.push_counters.Given as goal

abbrev pub invariant-loop-i : goal.invariant-loop-i
invariant-loop-i l = l.all ≡ l.initial.all ++ numbered (counter_latch l.z) 0 l.i
