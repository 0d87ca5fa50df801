use Rattle.ic3.specs.SteppingInside.{Grows}
use Rattle.ic3.proofs.cone.put.Given as goal

abbrev pub invariant-loop-place : goal.invariant-loop-place
invariant-loop-place l = Grows l.base.clauses l.initial.solver.added l.solver.added
