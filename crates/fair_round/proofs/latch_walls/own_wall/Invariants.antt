use Rattle.edge.specs.Ends.{CountsConflicts}
use Rattle.fair_round.proofs.latch_walls.own_wall.Given as goal

abbrev pub invariant-loop-literal : goal.invariant-loop-literal
invariant-loop-literal l = CountsConflicts l.initial.meter l.meter
