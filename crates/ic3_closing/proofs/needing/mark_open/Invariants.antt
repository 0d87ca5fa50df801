use Rattle.edge.specs.Ends.{CountsConflicts}
use Rattle.ic3_closing.proofs.needing.mark_open.Given as goal

abbrev pub invariant-loop-turn : goal.invariant-loop-turn
invariant-loop-turn l = CountsConflicts l.fn.meter l.meter
