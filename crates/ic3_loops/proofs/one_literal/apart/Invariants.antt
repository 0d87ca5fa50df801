use Rattle.std.proofs.Common.{◌≡◌}
use Rattle.edge.specs.Ends.{CountsConflicts}
use Rattle.ic3_loops.proofs.one_literal.apart.Given as goal

abbrev pub invariant-loop-literal : goal.invariant-loop-literal
invariant-loop-literal g l = record {
  same : (g.S.StepSolver.seen l.steps) ≡ (g.S.StepSolver.seen l.initial.steps);
  counted : CountsConflicts l.initial.meter l.meter;
}
