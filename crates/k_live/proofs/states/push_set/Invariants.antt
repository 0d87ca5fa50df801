use Rattle.std.proofs.Common.{◌≡◌, ◌++◌, map, take}
use Rattle.cnf_unroll.specs.Numbers.{state_place, clause_at_place}
use Rattle.k_live.proofs.states.push_set.Given as goal

abbrev pub invariant-loop-clause : goal.invariant-loop-clause
invariant-loop-clause l = l.db.clauses ≡ l.initial.db.clauses ++ map (clause_at_place (state_place l.c 0)) (take l.clause-index l.set)
