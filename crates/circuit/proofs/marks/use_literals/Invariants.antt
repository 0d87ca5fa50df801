use Rattle.std.proofs.Common.{◌≡◌, fold, take}
use Rattle.circuit.specs.Marks.{with_use}
use Rattle.circuit.proofs.marks.use_literals.Given as goal

abbrev pub invariant-loop-literal : goal.invariant-loop-literal
invariant-loop-literal l = l.marks ≡ fold with_use l.initial.marks (take l.literal-index l.literals)
