use Rattle.std.proofs.Common.{sym, ◌∙◌}
use Rattle.circuit.proofs.Ascending.{ascending-order}
use Rattle.circuit.proofs.ordering.order_gates.Goals as goal

pub returns-then-ascend : goal.returns-then-ascend
returns-then-ascend c = ascending-order c.args.parts.now.gates (rw c.as_slice.ensures at (sym c.ascend.ensures ∙ c.if-ascend.true))
