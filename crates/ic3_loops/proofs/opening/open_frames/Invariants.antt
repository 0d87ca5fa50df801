use Rattle.std.proofs.Common.{take}
use Rattle.ic3_loops.specs.Sound.{Agree, KeepsQuestion}
use Rattle.ic3_loops.proofs.Begins.{IsBegun}
use Rattle.ic3_loops.proofs.opening.open_frames.Given as goal

abbrev pub invariant-loop-i : goal.invariant-loop-i
invariant-loop-i g l = record {
  begun : IsBegun (g.S.StepSolver.seen l.initial.steps).question l.starts (take l.i l.starts) l.frames;
  agree : Agree (g.S.StepSolver.seen l.steps).lemmas l.frames;
  question : KeepsQuestion (g.S.StepSolver.seen l.initial.steps) (g.S.StepSolver.seen l.steps);
}
