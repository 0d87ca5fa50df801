use Rattle.std.proofs.Common.{Bool, List}
use Rattle.std.specs.List.{All}
use Rattle.lasso_join.specs.Fitting.{IsStemTo}
use Rattle.simulation.proofs.judging.judged_runs.Given as goal

abbrev pub invariant-loop-stimulus : goal.invariant-loop-stimulus
invariant-loop-stimulus l = All (λ run. (t : List Bool) × IsStemTo l.c t run) l.runs.items
