use Rattle.std.proofs.Common.{◌≡◌, ◌++◌}
use Rattle.lasso_clauses.specs.Clauses.{positions_clauses}
use Rattle.lasso_clauses.proofs.growing.push_positions.Given as goal

abbrev pub invariant-loop-i : goal.invariant-loop-i
invariant-loop-i l = l.db.clauses ≡ l.initial.db.clauses ++ positions_clauses l.c l.literals l.i
