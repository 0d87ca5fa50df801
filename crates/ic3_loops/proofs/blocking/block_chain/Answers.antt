use Rattle.ic3_loops.proofs.Kept.{keeps_then, bounds_then}
use Rattle.ic3_loops.proofs.blocking.block_chain.Goals as goal

pub returns-in-Start-clause-kept : goal.returns-in-Start-clause-kept
returns-in-Start-clause-kept g c =
    keeps_then c.args.top.now.aim.now.starts.now (g.S.StepSolver.seen c.args.steps.now) (g.S.StepSolver.seen c.levels.steps) (g.S.StepSolver.seen c.block_at.new.steps) c.args.frames.now c.levels.frames c.block_at.new.frames c.args.meter.now
    c.levels.meter c.block_at.new.meter c.levels.invariant.bounded.question c.levels.invariant.kept c.in_ok-block_at.ensures.kept

pub returns-in-Start-clause-bounded : goal.returns-in-Start-clause-bounded
returns-in-Start-clause-bounded g c =
    bounds_then c.args.top.now.aim.now.starts.now (g.S.StepSolver.seen c.args.steps.now) (g.S.StepSolver.seen c.levels.steps) (g.S.StepSolver.seen c.block_at.new.steps) c.args.frames.now c.levels.frames c.args.meter.now c.levels.meter
    c.block_at.new.meter c.levels.invariant.kept c.levels.invariant.bounded c.in_ok-block_at.ensures.bounded

pub returns-in-Excluded-clause-kept : goal.returns-in-Excluded-clause-kept
returns-in-Excluded-clause-kept g c =
    keeps_then c.args.top.now.aim.now.starts.now (g.S.StepSolver.seen c.args.steps.now) (g.S.StepSolver.seen c.levels.steps) (g.S.StepSolver.seen c.block_at.new.steps) c.args.frames.now c.levels.frames c.block_at.new.frames c.args.meter.now
    c.levels.meter c.block_at.new.meter c.levels.invariant.bounded.question c.levels.invariant.kept c.in_ok-block_at.ensures.kept

pub returns-in-Excluded-clause-bounded : goal.returns-in-Excluded-clause-bounded
returns-in-Excluded-clause-bounded g c =
    bounds_then c.args.top.now.aim.now.starts.now (g.S.StepSolver.seen c.args.steps.now) (g.S.StepSolver.seen c.levels.steps) (g.S.StepSolver.seen c.block_at.new.steps) c.args.frames.now c.levels.frames c.args.meter.now c.levels.meter
    c.block_at.new.meter c.levels.invariant.kept c.levels.invariant.bounded c.in_ok-block_at.ensures.bounded
