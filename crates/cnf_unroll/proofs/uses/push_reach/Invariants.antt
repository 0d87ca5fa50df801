use Rattle.std.proofs.Common.{◌≡◌, ◌++◌, take}
use Rattle.cnf_unroll.specs.Uses.{reach_clauses}
use Rattle.cnf_unroll.proofs.uses.push_reach.Given as goal

abbrev pub invariant-loop-place : goal.invariant-loop-place
invariant-loop-place l = l.db.clauses ≡ l.initial.db.clauses ++ reach_clauses l.set (take l.place-index l.places)
