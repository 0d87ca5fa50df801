use Rattle.std.proofs.Common.{◌+◌}
use Rattle.circuit.proofs.Tables.{IsFilled}
use Rattle.circuit.proofs.ordering.table_of.Given as goal

abbrev pub invariant-loop-k : goal.invariant-loop-k
invariant-loop-k l = IsFilled l.parts.gates (l.parts.max + 1) l.table.items l.k
