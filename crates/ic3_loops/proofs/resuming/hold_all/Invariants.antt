use Rattle.std.proofs.Common.{◌≡◌, ◌++◌, drop}
use Rattle.ic3_loops.specs.Sound.{KeepsQuestion}
use Rattle.ic3_loops.specs.Resuming.{all_placed}
use Rattle.ic3_loops.proofs.resuming.hold_all.Given as goal

abbrev pub invariant-loop-level : goal.invariant-loop-level
invariant-loop-level g l = record {
  lemmas : (g.S.StepSolver.seen l.steps).lemmas ++ all_placed l.level (drop l.level l.frames) ≡ all_placed 0 l.frames;
  question : KeepsQuestion (g.S.StepSolver.seen l.initial.steps) (g.S.StepSolver.seen l.steps);
}
