use Rattle.std.proofs.Common.{◌+◌, ◌-◌, ◌≤◌, length}
use Rattle.ic3_frames.specs.Room.{room}
use Rattle.ic3_loops.specs.Sound.{IsSearch, KeepsQuestion}
use Rattle.ic3_semantics.specs.Searching.{CountsUpTo, CountsAtLeast}
use Rattle.ic3_loops.specs.Propagating.{Narrows}
use Rattle.ic3_frames.specs.Witnessing.{AreWitnesses}
use Rattle.ic3_loops.proofs.iterating.iterate.Given as goal

abbrev pub invariant-iterations : goal.invariant-iterations
invariant-iterations g l = record {
  search : IsSearch l.aim.starts.now (g.S.StepSolver.seen l.steps) l.frames;
  two : 2 ≤ length l.frames;
  more : length l.initial.frames ≤ length l.frames;
  narrows : Narrows l.initial.frames l.frames;
  known : AreWitnesses (g.S.StepSolver.seen l.initial.steps).question l.known;
  question : KeepsQuestion (g.S.StepSolver.seen l.initial.steps) (g.S.StepSolver.seen l.steps);
  paid : l.meter.steps + room (length (g.S.StepSolver.seen l.initial.steps).question.circuit.latches) l.frames
      ≤ l.initial.meter.steps + room (length (g.S.StepSolver.seen l.initial.steps).question.circuit.latches) l.initial.frames;
  counted : CountsUpTo (room (length (g.S.StepSolver.seen l.initial.steps).question.circuit.latches) l.initial.frames) l.initial.meter l.meter;
  fewest : CountsAtLeast (length l.frames - length l.initial.frames) l.initial.meter l.meter;
}

abbrev pub decreases-iterations : goal.decreases-iterations
decreases-iterations g l = room (length (g.S.StepSolver.seen l.initial.steps).question.circuit.latches) l.frames
