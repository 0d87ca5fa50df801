use Rattle.std.proofs.Common.{◌≡◌, ◌++◌}
use Rattle.live_to_safe.specs.Watching.{numbered}
use Rattle.round_monitor.specs.Watching.{next_seen_gate}
use Rattle.round_monitor.proofs.gates.push_next_seen.Given as goal

abbrev pub invariant-loop-m : goal.invariant-loop-m
invariant-loop-m l = l.gates.items ≡ l.initial.gates.items ++ numbered (next_seen_gate l.z) 0 l.m
