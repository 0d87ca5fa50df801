use Rattle.std.proofs.Common.{◌≡◌, ◌++◌, drop}
use Rattle.live_to_safe.specs.Watching.{for_each}
use Rattle.round_monitor.specs.Watching.{missing_gate}
use Rattle.round_monitor.proofs.gates.push_missing.Given as goal

abbrev pub invariant-loop-m : goal.invariant-loop-m
invariant-loop-m l =
    l.gates.items ++ for_each (missing_gate l.z) l.m (drop l.m l.literals) ≡ l.initial.gates.items ++ for_each (missing_gate l.z) 0 l.literals
