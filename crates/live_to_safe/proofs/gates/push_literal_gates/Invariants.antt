use Rattle.std.proofs.Common.{◌≡◌, ◌++◌, drop}
use Rattle.live_to_safe.specs.Watching.{for_each, literal_gates}
use Rattle.live_to_safe.proofs.gates.push_literal_gates.Given as goal

abbrev pub invariant-loop-m : goal.invariant-loop-m
invariant-loop-m l =
    l.gates.items ++ for_each (literal_gates l.z) l.m (drop l.m l.literals) ≡ l.initial.gates.items ++ for_each (literal_gates l.z) 0 l.literals
