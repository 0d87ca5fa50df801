use Rattle.std.proofs.Common.{◌≡◌, true}
use Rattle.cdcl_trail.specs.Propagation.{is_complete, IsReasonedTrail}
use Rattle.clause_tests.proofs.conflicts.conflict_on.Given as goal

abbrev pub invariant-loop-number : goal.invariant-loop-number
invariant-loop-number l = record {
  reasoned : IsReasonedTrail l.db.clauses l.trail.steps;
  complete : is_complete l.db.clauses l.trail.steps ≡ true;
  taken : l.trail.taken ≡ l.db.clauses;
}
