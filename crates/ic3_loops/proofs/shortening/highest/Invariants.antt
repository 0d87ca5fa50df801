use Rattle.std.proofs.Common.{◌≡◌, ◌+◌, length}
use Rattle.edge.specs.Ends.{CountsConflicts}
use Rattle.ic3_loops.specs.Generalizing.{IsHeldFrom}
use Rattle.ic3_loops.proofs.shortening.highest.Given as goal

abbrev pub invariant-loop-next : goal.invariant-loop-next
invariant-loop-next g l = record {
  held : IsHeldFrom l.aim.starts.now (g.S.StepSolver.seen l.initial.steps) (length l.frames) l.level l.cube l.from;
  next : l.from + 1 ≡ l.next;
  same : (g.S.StepSolver.seen l.steps) ≡ (g.S.StepSolver.seen l.initial.steps);
  counted : CountsConflicts l.initial.meter l.meter;
}
