use Rattle.std.proofs.Common.{◌≡◌}
use Rattle.edge.specs.Ends.{CountsConflicts}
use Rattle.fair_round.proofs.latch_walls.other_wall.Given as goal

abbrev pub invariant-loop-literal : goal.invariant-loop-literal
invariant-loop-literal l = record {
  same : l.rounds ≡ l.initial.rounds;
  counted : CountsConflicts l.initial.meter l.meter;
}
