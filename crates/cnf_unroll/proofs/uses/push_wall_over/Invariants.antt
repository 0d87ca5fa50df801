use Rattle.std.proofs.Common.{◌≡◌, ◌++◌, drop}
use Rattle.cnf_unroll.specs.Uses.{wall_over, after_marks}
use Rattle.cnf_unroll.proofs.uses.push_wall_over.Given as goal

abbrev pub invariant-loop-place : goal.invariant-loop-place
invariant-loop-place l = record {
  clauses : l.db.clauses ++ wall_over l.z l.names l.set l.d (drop l.place-index l.places) ≡ l.initial.db.clauses ++ wall_over l.z l.names l.set l.first l.places;
  free : after_marks l.set l.d (drop l.place-index l.places) ≡ after_marks l.set l.first l.places;
}
