use Rattle.std.proofs.Common.{◌≡◌}
use Rattle.ic3_loops.specs.Keeping.{Keeps, Bounds}
use Rattle.ic3_loops.specs.Blocking.{AreObligations, IsOpen}
use Rattle.ic3_loops.proofs.blocking.block_chain.Given as goal

abbrev pub invariant-levels : goal.invariant-levels
invariant-levels g l = record {
  same : l.frames ≡ l.initial.frames;
  kept : Keeps l.top.aim.now.starts.now (g.S.StepSolver.seen l.initial.steps) (g.S.StepSolver.seen l.steps) l.initial.frames l.frames l.initial.meter l.meter;
  bounded : Bounds (g.S.StepSolver.seen l.initial.steps) (g.S.StepSolver.seen l.steps) l.initial.frames l.initial.meter l.meter;
  obligations : AreObligations (g.S.StepSolver.seen l.initial.steps).question l.top.aim.now.goal.now l.top.level l.obligations;
  due : IsOpen l.top.level l.frames l.obligations.nodes.items l.at;
}

abbrev pub decreases-levels : goal.decreases-levels
decreases-levels g l = l.at.level
