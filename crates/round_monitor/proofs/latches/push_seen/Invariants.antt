use Rattle.std.proofs.Common.{◌≡◌, ◌++◌}
use Rattle.live_to_safe.specs.Watching.{numbered}
use Rattle.round_monitor.specs.Watching.{seen_latch}
use Rattle.round_monitor.proofs.latches.push_seen.Given as goal

abbrev pub invariant-loop-m : goal.invariant-loop-m
invariant-loop-m l = l.all ≡ l.initial.all ++ numbered (seen_latch l.z) 0 l.m
