use Rattle.std.proofs.Common.{◌≡◌, ◌++◌, drop}
use Rattle.waves.specs.Wires.{property_literals}
use Rattle.waves.proofs.wires.push_property.Given as goal

abbrev pub invariant-loop-k : goal.invariant-loop-k
invariant-loop-k l =
    l.wires.items ++ property_literals l.j l.k (drop l.k l.literals) ≡ l.fn.wires.items ++ property_literals l.j 0 l.literals
