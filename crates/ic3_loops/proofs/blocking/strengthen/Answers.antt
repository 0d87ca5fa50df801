use Rattle.ic3_loops.proofs.Kept.{keeps_then, bounds_then}
use Rattle.ic3_loops.proofs.blocking.strengthen.Goals as goal

pub obligations-preserved : goal.obligations-preserved
obligations-preserved g c =
    let before = c.obligations.invariant in
    let says = c.in_ok-positions.ensures in
    let is = before.bounded.question.question in
    record {
      kept =
          keeps_then c.args.aim.now.starts.now (g.S.StepSolver.seen c.args.steps.now) (g.S.StepSolver.seen c.obligations.steps) (g.S.StepSolver.seen c.block_next.new.steps) c.args.frames.now c.obligations.frames c.block_next.new.frames
          c.args.meter.now c.obligations.meter c.block_next.new.meter before.bounded.question before.kept says.kept;
      bounded =
          bounds_then c.args.aim.now.starts.now (g.S.StepSolver.seen c.args.steps.now) (g.S.StepSolver.seen c.obligations.steps) (g.S.StepSolver.seen c.block_next.new.steps) c.args.frames.now c.obligations.frames c.args.meter.now
          c.obligations.meter c.block_next.new.meter before.kept before.bounded says.bounded;
      obligations = rw is at says.obligations;
    }

pub returns-in-Path-clause-kept : goal.returns-in-Path-clause-kept
returns-in-Path-clause-kept g c =
    keeps_then c.args.aim.now.starts.now (g.S.StepSolver.seen c.args.steps.now) (g.S.StepSolver.seen c.obligations.steps) (g.S.StepSolver.seen c.block_next.new.steps) c.args.frames.now c.obligations.frames c.block_next.new.frames
    c.args.meter.now c.obligations.meter c.block_next.new.meter c.obligations.invariant.bounded.question c.obligations.invariant.kept
    c.in_ok-positions.ensures.kept

pub returns-in-Path-clause-bounded : goal.returns-in-Path-clause-bounded
returns-in-Path-clause-bounded g c =
    bounds_then c.args.aim.now.starts.now (g.S.StepSolver.seen c.args.steps.now) (g.S.StepSolver.seen c.obligations.steps) (g.S.StepSolver.seen c.block_next.new.steps) c.args.frames.now c.obligations.frames c.args.meter.now c.obligations.meter
    c.block_next.new.meter c.obligations.invariant.kept c.obligations.invariant.bounded c.in_ok-positions.ensures.bounded

pub returns-in-Missed-clause-kept : goal.returns-in-Missed-clause-kept
returns-in-Missed-clause-kept g c =
    keeps_then c.args.aim.now.starts.now (g.S.StepSolver.seen c.args.steps.now) (g.S.StepSolver.seen c.obligations.steps) (g.S.StepSolver.seen c.block_next.new.steps) c.args.frames.now c.obligations.frames c.block_next.new.frames
    c.args.meter.now c.obligations.meter c.block_next.new.meter c.obligations.invariant.bounded.question c.obligations.invariant.kept
    c.in_ok-positions.ensures.kept

pub returns-in-Missed-clause-bounded : goal.returns-in-Missed-clause-bounded
returns-in-Missed-clause-bounded g c =
    bounds_then c.args.aim.now.starts.now (g.S.StepSolver.seen c.args.steps.now) (g.S.StepSolver.seen c.obligations.steps) (g.S.StepSolver.seen c.block_next.new.steps) c.args.frames.now c.obligations.frames c.args.meter.now c.obligations.meter
    c.block_next.new.meter c.obligations.invariant.kept c.obligations.invariant.bounded c.in_ok-positions.ensures.bounded

pub returns-in_err-positions-clause-bounded : goal.returns-in_err-positions-clause-bounded
returns-in_err-positions-clause-bounded g c =
    bounds_then c.args.aim.now.starts.now (g.S.StepSolver.seen c.args.steps.now) (g.S.StepSolver.seen c.obligations.steps) (g.S.StepSolver.seen c.block_next.new.steps) c.args.frames.now c.obligations.frames c.args.meter.now c.obligations.meter
    c.block_next.new.meter c.obligations.invariant.kept c.obligations.invariant.bounded c.block_next.ensures.bounded
