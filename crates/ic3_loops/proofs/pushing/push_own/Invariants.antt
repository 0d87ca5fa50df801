use Rattle.edge.specs.Ends.{CountsConflicts}
use Rattle.ic3_loops.specs.Sound.{KeepsQuestion}
use Rattle.ic3_loops.specs.Propagating.{IsNarrower}
use Rattle.ic3_frames.specs.Witnessing.{AreWitnesses}
use Rattle.ic3_loops.proofs.pushing.push_own.Given as goal

abbrev pub invariant-places : goal.invariant-places
invariant-places g l = record {
  narrower : IsNarrower l.aim.starts.now (g.S.StepSolver.seen l.initial.steps) (g.S.StepSolver.seen l.steps) l.initial.frames l.frames;
  known : AreWitnesses (g.S.StepSolver.seen l.initial.steps).question l.known;
  question : KeepsQuestion (g.S.StepSolver.seen l.initial.steps) (g.S.StepSolver.seen l.steps);
  counted : CountsConflicts l.initial.meter l.meter;
}

abbrev pub decreases-places : goal.decreases-places
decreases-places g l = l.place
