use Rattle.std.proofs.Common.{◌≡◌}
use Rattle.edge.specs.Ends.{CountsConflicts}
use Rattle.fair_round.proofs.latch_walls.crossed.Given as goal

abbrev pub invariant-loop-place : goal.invariant-loop-place
invariant-loop-place l = record {
  same : l.rounds ≡ l.initial.rounds;
  counted : CountsConflicts l.initial.meter l.meter;
}
