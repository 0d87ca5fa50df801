use Rattle.ic3.specs.SteppingInside.{Grows}
use Rattle.ic3.proofs.cone.meet_nexts.Given as goal

abbrev pub invariant-loop-literal : goal.invariant-loop-literal
invariant-loop-literal l = Grows l.base.clauses l.initial.solver.added l.solver.added
