use Rattle.std.proofs.Common.{◌≡◌, ◌+◌, length}
use Rattle.lasso_join.specs.Fitting.{IsStemTo}
use Rattle.simulation.proofs.judging.extend.Given as goal

abbrev pub invariant-loop-now : goal.invariant-loop-now
invariant-loop-now l = record {
  size : length l.stem.state ≡ length l.c.latches;
  stem : IsStemTo l.c l.stem.state l.stem.positions;
  values : length l.values ≡ l.c.max + 1;
}
