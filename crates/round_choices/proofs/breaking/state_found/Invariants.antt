use Rattle.edge.specs.Ends.{CountsConflicts}
use Rattle.round_choices.proofs.breaking.state_found.Given as goal

abbrev pub invariant-loop-clause : goal.invariant-loop-clause
invariant-loop-clause l = CountsConflicts l.fn.meter l.meter
