use Rattle.ic3.specs.SteppingInside.{Grows}
use Rattle.ic3.proofs.cone.meet_entries.Given as goal

abbrev pub invariant-loop-entry : goal.invariant-loop-entry
invariant-loop-entry l = Grows l.base.clauses l.initial.solver.added l.solver.added

abbrev pub invariant-loop-clause : goal.invariant-loop-clause
invariant-loop-clause l = Grows l.base.clauses l.initial.solver.added l.solver.added
