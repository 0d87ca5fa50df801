use Rattle.std.proofs.Common.{[], get_or}
use Rattle.lasso_join.specs.Fitting.{IsStemTo}
use Rattle.fair_round.specs.Walks.{states}
use Rattle.fair_round.proofs.seeking.keep_run.Given as goal

abbrev pub invariant-loop-k : goal.invariant-loop-k
invariant-loop-k l = IsStemTo l.c (get_or (states l.situations) l.k []) l.run.items
