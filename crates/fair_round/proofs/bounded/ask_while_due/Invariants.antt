use Rattle.edge.specs.Ends.{CountsConflicts}
use Rattle.fair_round.proofs.bounded.ask_while_due.Given as goal

abbrev pub invariant-loop-position : goal.invariant-loop-position
invariant-loop-position l = CountsConflicts l.fn.meter l.meter
