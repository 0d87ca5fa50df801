use Rattle.std.proofs.Common.{length}
use Rattle.std.specs.List.{All}
use Rattle.edge.specs.Ends.{CountsConflicts}
use Rattle.fair_round.specs.Scopes.{IsQueryOf, AreAvoided}
use Rattle.fair_round.specs.Pools.{IsRun}
use Rattle.fair_round.proofs.pool.pooled.Given as goal

abbrev pub invariant-runs : goal.invariant-runs
invariant-runs l = record {
  runs : All (IsRun l.scope.circuit.now) l.runs.items;
  avoid : AreAvoided l.scope l.avoid;
  query : IsQueryOf l.scope l.query;
  counted : CountsConflicts l.initial.meter l.meter;
}

abbrev pub decreases-runs : goal.decreases-runs
decreases-runs l = length l.runs.items
