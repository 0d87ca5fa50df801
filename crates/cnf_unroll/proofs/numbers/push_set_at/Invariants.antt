use Rattle.std.proofs.Common.{◌≡◌, ◌++◌, map, take}
use Rattle.cnf_unroll.specs.Numbers.{clause_at_place}
use Rattle.cnf_unroll.proofs.numbers.push_set_at.Given as goal

abbrev pub invariant-loop-clause : goal.invariant-loop-clause
invariant-loop-clause l = l.db.clauses ≡ l.initial.db.clauses ++ map (clause_at_place l.place) (take l.clause-index l.set)
