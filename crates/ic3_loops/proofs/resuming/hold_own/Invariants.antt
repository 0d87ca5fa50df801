use Rattle.std.proofs.Common.{◌≡◌, ◌++◌, ◌-◌, length, take}
use Rattle.ic3_frames.specs.Frames.{own_lemmas}
use Rattle.ic3_loops.specs.Sound.{KeepsQuestion}
use Rattle.ic3_loops.specs.Resuming.{placed}
use Rattle.ic3_loops.proofs.resuming.hold_own.Given as goal

abbrev pub invariant-places : goal.invariant-places
invariant-places g l = record {
  lemmas : (g.S.StepSolver.seen l.steps).lemmas ≡ (g.S.StepSolver.seen l.initial.steps).lemmas ++ placed l.level (take l.place (own_lemmas l.frames l.level));
  question : KeepsQuestion (g.S.StepSolver.seen l.initial.steps) (g.S.StepSolver.seen l.steps);
}

abbrev pub decreases-places : goal.decreases-places
decreases-places g l = length (own_lemmas l.frames l.level) - l.place
