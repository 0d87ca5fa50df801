use Rattle.std.proofs.Common.{length}
use Rattle.std.specs.List.{All}
use Rattle.fair_round.specs.Pools.{IsReachedRun, IsRun}
use Rattle.fair_round.proofs.pool.keep_all.Given as goal

abbrev pub invariant-runs : goal.invariant-runs
invariant-runs l = record {
  reached : All (IsReachedRun l.c) l.reached.items;
  runs : All (IsRun l.c) l.runs.items;
}

abbrev pub decreases-runs : goal.decreases-runs
decreases-runs l = length l.reached.items
