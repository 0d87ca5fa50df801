use Rattle.std.proofs.Common.{◌≤◌, length}
use Rattle.edge.specs.Ends.{CountsConflicts}
use Rattle.fair_round.specs.Scopes.{IsQueryOf, AreAvoided}
use Rattle.fair_round.proofs.pool.newest.Given as goal

abbrev pub invariant-places : goal.invariant-places
invariant-places l = record {
  within : l.at ≤ length l.positions;
  avoid : AreAvoided l.scope l.avoid;
  query : IsQueryOf l.scope l.query;
  counted : CountsConflicts l.initial.meter l.meter;
}

abbrev pub decreases-places : goal.decreases-places
decreases-places l = l.at
