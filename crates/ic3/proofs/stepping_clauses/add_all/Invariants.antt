use Rattle.std.proofs.Common.{◌≡◌, ◌++◌, take}
use Rattle.ic3.proofs.stepping_clauses.add_all.Given as goal

abbrev pub invariant-loop-clause : goal.invariant-loop-clause
invariant-loop-clause l = l.solver.added ≡ l.initial.solver.added ++ take l.clause-index l.clause-items
