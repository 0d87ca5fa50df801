use Rattle.std.proofs.Common.{◌≡◌, ◌++◌}
use Rattle.round_monitor.specs.Watching.{each_of, later_counter_gates}
use Rattle.round_monitor.proofs.gates.push_later_counters.Given as goal

abbrev pub invariant-loop-i : goal.invariant-loop-i
invariant-loop-i l = l.gates.items ≡ l.initial.gates.items ++ each_of (later_counter_gates l.z) 0 l.i
