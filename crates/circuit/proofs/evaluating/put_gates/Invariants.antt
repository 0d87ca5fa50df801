use Rattle.std.proofs.Common.{◌≡◌, fold, take}
use Rattle.circuit.specs.Evaluation.{with_gate}
use Rattle.circuit.proofs.evaluating.put_gates.Given as goal

abbrev pub invariant-loop-gate : goal.invariant-loop-gate
invariant-loop-gate l = l.out ≡ fold with_gate l.initial.out (take l.gate-index l.order)
