use Rattle.std.proofs.Common.{◌≡◌, drop}
use Rattle.circuit.specs.Ordering.{ascend_from}
use Rattle.circuit.proofs.ordering.ascend.Given as goal

abbrev pub invariant-loop-gate : goal.invariant-loop-gate
invariant-loop-gate l = ascend_from l.last (drop l.gate-index l.gates) ≡ ascend_from 0 l.gates
