use Rattle.std.proofs.Common.{◌≡◌, ◌++◌, map, take}
use Rattle.lasso_clauses.specs.Moving.{moved}
use Rattle.lasso_clauses.proofs.parts.push_moved.Given as goal

abbrev pub invariant-loop-clause : goal.invariant-loop-clause
invariant-loop-clause l = l.db.clauses ≡ l.initial.db.clauses ++ map (moved l.base) (take l.clause-index l.clauses)
