use Rattle.std.proofs.Common.{◌≡◌, ◌+◌, ◌++◌, take}
use Rattle.std.specs.List.{flat_map}
use Rattle.lasso_clauses.specs.Clauses.{same_value}
use Rattle.lasso_clauses.proofs.parts.push_same_values.Given as goal

abbrev pub invariant-loop-latch : goal.invariant-loop-latch
invariant-loop-latch l =
    l.db.clauses ≡ l.initial.db.clauses ++ flat_map (λ latch. same_value l.unless (l.starts.one + latch.var) (l.starts.other + latch.var)) (take l.latch-index l.latches)
