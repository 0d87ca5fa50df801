use Rattle.std.proofs.Common.{◌≡◌, fold, take}
use Rattle.circuit.specs.Marks.{with_use}
use Rattle.circuit.proofs.marks.use_gates.Given as goal

abbrev pub invariant-loop-gate : goal.invariant-loop-gate
invariant-loop-gate l = l.marks ≡ fold (λ m gate. with_use (with_use m gate.rhs0) gate.rhs1) l.initial.marks (take l.gate-index l.gates)
