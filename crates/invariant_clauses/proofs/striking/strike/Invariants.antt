use Rattle.edge.specs.Ends.{CountsConflicts}
use Rattle.invariant_clauses.proofs.striking.strike.Given as goal

abbrev pub invariant-loop-turn : goal.invariant-loop-turn
invariant-loop-turn l = CountsConflicts l.fn.meter l.meter
