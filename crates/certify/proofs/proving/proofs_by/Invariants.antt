use Rattle.std.proofs.Common.{◌≡◌, ℕ, ◌-◌, ◌<◌, ◌≤◌, ◌++◌, [], length, get_or}
use Rattle.proof_semantics.specs.Proofs.{Refutes}
use Rattle.edge.specs.Ends.{CountsConflicts}
use Rattle.cdcl.specs.Solving.{with_conflicts}
use Rattle.cnf_unroll.specs.Obligations.{units, broken_literals}
use Rattle.certify.proofs.proving.proofs_by.Given as goal

abbrev pub invariant-loop-clause : goal.invariant-loop-clause
invariant-loop-clause l = record {
  count : length l.proofs ≡ l.clause-index;
  each : (k : ℕ) → k < length l.proofs → Refutes (l.fn.solver.added ++ units (broken_literals l.fn.c (get_or l.fn.clauses k []))) (get_or l.proofs k []);
  added : l.solver.added ≡ l.fn.solver.added;
  counted : l.meter ≡ with_conflicts l.fn.meter (length l.solver.learned - length l.fn.solver.learned);
  longer : length l.fn.solver.learned ≤ length l.solver.learned;
  alone : CountsConflicts l.fn.meter l.meter;
}
