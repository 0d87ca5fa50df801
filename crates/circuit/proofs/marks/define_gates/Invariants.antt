use Rattle.std.proofs.Common.{◌≡◌, fold, take}
use Rattle.circuit.specs.Marks.{with_definition}
use Rattle.circuit.proofs.marks.define_gates.Given as goal

abbrev pub invariant-loop-gate : goal.invariant-loop-gate
invariant-loop-gate l = l.marks ≡ fold (λ m gate. with_definition m gate.var) l.initial.marks (take l.gate-index l.gates)
