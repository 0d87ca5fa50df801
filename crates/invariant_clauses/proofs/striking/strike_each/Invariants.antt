use Rattle.edge.specs.Ends.{CountsConflicts}
use Rattle.invariant_clauses.proofs.striking.strike_each.Given as goal

abbrev pub invariant-loop-number : goal.invariant-loop-number
invariant-loop-number l = CountsConflicts l.fn.meter l.meter
