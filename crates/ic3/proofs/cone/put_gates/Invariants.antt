use Rattle.ic3.specs.SteppingInside.{Grows}
use Rattle.ic3.proofs.cone.put_gates.Given as goal

abbrev pub invariant-loop-gate : goal.invariant-loop-gate
invariant-loop-gate l = Grows l.base.clauses l.initial.solver.added l.solver.added
