use Rattle.std.proofs.Common.{length}
use Rattle.ic3_frames.specs.Room.{room}
use Rattle.ic3_loops.specs.Keeping.{Keeps, Bounds}
use Rattle.ic3_loops.specs.Blocking.{AreObligations}
use Rattle.ic3_loops.proofs.blocking.strengthen.Given as goal

abbrev pub invariant-obligations : goal.invariant-obligations
invariant-obligations g l = record {
  kept : Keeps l.top.aim.now.starts.now (g.S.StepSolver.seen l.initial.steps) (g.S.StepSolver.seen l.steps) l.initial.frames l.frames l.initial.meter l.meter;
  bounded : Bounds (g.S.StepSolver.seen l.initial.steps) (g.S.StepSolver.seen l.steps) l.initial.frames l.initial.meter l.meter;
  obligations : AreObligations (g.S.StepSolver.seen l.initial.steps).question l.top.aim.now.goal.now l.top.level l.obligations;
}

abbrev pub decreases-obligations : goal.decreases-obligations
decreases-obligations g l = room (length (g.S.StepSolver.seen l.initial.steps).question.circuit.latches) l.frames
