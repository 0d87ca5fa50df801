use Rattle.std.proofs.Common.{◌≡◌}
use Rattle.edge.specs.Ends.{CountsConflicts}
use Rattle.entry.specs.CheckedEntries.{viewed}
use Rattle.ic3_closing.specs.Standing.{shared_by, NoneBreaks}
use Rattle.ic3_closing.proofs.standing.are_unbroken.Given as goal

abbrev pub invariant-loop-clause : goal.invariant-loop-clause
invariant-loop-clause l = record {
  none : NoneBreaks l.fn.c (viewed l.fn._view) l.fn.part.clauses l.fn.part.uses l.clause-index;
  added : l.solver.added ≡ shared_by l.fn.c (viewed l.fn._view) l.fn.part.clauses l.fn.part.uses;
  counted : CountsConflicts l.fn.meter l.meter;
}
