use Rattle.std.proofs.Common.{◌≡◌, ◌+◌, ◌++◌, drop}
use Rattle.cnf_unroll.specs.Uses.{wall_at}
use Rattle.cnf_unroll.proofs.uses.push_wall_at.Given as goal

abbrev pub invariant-loop-clause : goal.invariant-loop-clause
invariant-loop-clause l = record { clauses : l.db.clauses ++ wall_at l.z l.place l.d (drop l.clause-index l.set) ≡ l.initial.db.clauses ++ wall_at l.z l.place l.first l.set; free : l.d ≡ l.first + l.clause-index }
