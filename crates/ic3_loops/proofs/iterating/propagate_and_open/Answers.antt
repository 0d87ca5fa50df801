use Rattle.std.proofs.Common.{◌+◌, length, ap, arith}
use Rattle.edge.specs.Units.{Spendings}
use Rattle.ic3_loops.proofs.Ended.{least_none, least_one}
use Rattle.ic3_loops.proofs.Lowest.{opened_number}
use Rattle.ic3_loops.proofs.Stuck.{narrow_on}
use Rattle.ic3_loops.proofs.Narrowing.{narrower_misses}
use Rattle.ic3_loops.proofs.iterating.propagate_and_open.Goals as goal

pub returns-in-Some-clause-outcome : goal.returns-in-Some-clause-outcome
returns-in-Some-clause-outcome g c = record {
  below = c.in-Some.ensures.found;
  same = c.in-Some.ensures.equal;
  misses =
      narrower_misses (g.S.StepSolver.seen c.args.steps.now).question c.args.aim.now.goal.now c.args.frames.now c.propagate.new.frames (c.in-Some.level + 1)
      c.in_ok-propagate.ensures.narrower.number c.in-Some.ensures.found c.in_ok-propagate.ensures.narrower.narrows c.requires.misses;
}

pub returns-in_ok-open_frame-in-None-clause-narrows : goal.returns-in_ok-open_frame-in-None-clause-narrows
returns-in_ok-open_frame-in-None-clause-narrows g c =
    narrow_on c.args.frames.now c.propagate.new.frames c.open_frame.new.frames c.in_ok-propagate.ensures.narrower.narrows
    c.in_ok-open_frame-in-None.ensures.narrows

pub returns-in-Some-clause-fewest : goal.returns-in-Some-clause-fewest
returns-in-Some-clause-fewest g c =
    let counted = c.in_ok-propagate.ensures.counted.steps in
    let number = c.in_ok-propagate.ensures.narrower.number in
    least_none (length c.args.frames.now) (length c.propagate.new.frames) c.args.meter.now c.propagate.new.meter (omega (arith, number))
    (omega (arith, counted))

pub returns-in_ok-open_frame-in-None-clause-fewest : goal.returns-in_ok-open_frame-in-None-clause-fewest
returns-in_ok-open_frame-in-None-clause-fewest g c =
    let counted = c.in_ok-propagate.ensures.counted.steps in
    let number = c.in_ok-propagate.ensures.narrower.number in
    least_one (length c.args.frames.now) (length c.open_frame.new.frames) c.args.meter.now c.propagate.new.meter c.open_frame.new.meter
    (opened_number c.args.frames.now c.propagate.new.frames c.open_frame.new.frames number c.in_ok-open_frame-in-None.ensures.frames)
    (omega (arith, counted)) (ap (λ (m : Spendings). m.steps) c.in_ok-open_frame-in-None.ensures.one)
