use Rattle.edge.specs.Ends.{CountsConflicts}
use Rattle.ic3_closing.proofs.guarded.mark_core.Given as goal

abbrev pub invariant-loop-side : goal.invariant-loop-side
invariant-loop-side l = CountsConflicts l.fn.meter l.meter
