use Rattle.std.proofs.Common.{◌≡◌, ◌+◌, ◌++◌, take}
use Rattle.std.specs.List.{flat_map}
use Rattle.lasso_clauses.specs.Clauses.{reset_clauses}
use Rattle.lasso_clauses.proofs.parts.push_resets.Given as goal

abbrev pub invariant-loop-latch : goal.invariant-loop-latch
invariant-loop-latch l =
    l.db.clauses ≡ l.initial.db.clauses ++ flat_map (λ latch. reset_clauses latch.reset (l.start + latch.var)) (take l.latch-index l.latches)
