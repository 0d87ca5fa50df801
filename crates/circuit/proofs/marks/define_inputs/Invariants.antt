use Rattle.std.proofs.Common.{◌≡◌, fold, take}
use Rattle.circuit.specs.Marks.{with_definition}
use Rattle.circuit.proofs.marks.define_inputs.Given as goal

abbrev pub invariant-loop-variable : goal.invariant-loop-variable
invariant-loop-variable l = l.marks ≡ fold with_definition l.initial.marks (take l.variable-index l.variables)
