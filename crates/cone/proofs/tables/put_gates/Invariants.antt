use Rattle.std.proofs.Common.{◌≡◌, take}
use Rattle.cone.specs.Finding.{with_gates}
use Rattle.cone.proofs.tables.put_gates.Given as goal

abbrev pub invariant-loop-gate : goal.invariant-loop-gate
invariant-loop-gate l = l.table ≡ with_gates l.initial.table (take l.gate-index l.gates)
