use Rattle.std.proofs.Common.{◌≡◌, ◌++◌, drop}
use Rattle.waves.specs.Wires.{elements}
use Rattle.waves.proofs.wires.push_elements.Given as goal

abbrev pub invariant-loop-k : goal.invariant-loop-k
invariant-loop-k l = l.wires.items ++ elements l.section l.k (drop l.k l.literals) ≡ l.fn.wires.items ++ elements l.section 0 l.literals
