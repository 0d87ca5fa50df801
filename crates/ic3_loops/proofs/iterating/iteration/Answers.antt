use Rattle.std.proofs.Common.{length, sym, subst, arith}
use Rattle.std.specs.Result.{OnOk}
use Rattle.ic3_frames.specs.Witnessing.{AreWitnesses}
use Rattle.ic3_loops.proofs.Ended.{on_ok, on_both, least_none, least_on}
use Rattle.ic3_loops.proofs.Stuck.{narrow_on}
use Rattle.ic3_loops.proofs.iterating.iteration.Goals as goal

pub returns-in-None-clause-narrows : goal.returns-in-None-clause-narrows
returns-in-None-clause-narrows g c =
    on_ok c.propagate_and_open.result _ _
    (narrow_on c.args.frames.now c.strengthen.new.frames c.propagate_and_open.new.frames c.in_ok-positions.ensures.kept.narrows)
    c.propagate_and_open.ensures.narrows

pub propagate_and_open-requires-clause-known : goal.propagate_and_open-requires-clause-known
propagate_and_open-requires-clause-known g c =
    subst (λ q. AreWitnesses q c.args.known.now) (sym c.in_ok-positions.ensures.bounded.question.question) c.requires.known

pub returns-in-None-clause-known : goal.returns-in-None-clause-known
returns-in-None-clause-known g c =
    subst (λ q. OnOk c.propagate_and_open.result (AreWitnesses q c.propagate_and_open.new.known))
    c.in_ok-positions.ensures.bounded.question.question c.propagate_and_open.ensures.known

pub returns-in-Some-clause-fewest : goal.returns-in-Some-clause-fewest
returns-in-Some-clause-fewest g c =
    let same = c.in_ok-positions.ensures.kept.number in
    least_none (length c.args.frames.now) (length c.strengthen.new.frames) c.args.meter.now c.strengthen.new.meter (omega (arith, same))
    c.in_ok-positions.ensures.bounded.counted.steps

pub returns-in-None-clause-fewest : goal.returns-in-None-clause-fewest
returns-in-None-clause-fewest g c =
    let x = length c.args.frames.now in
    let y = length c.strengthen.new.frames in
    let z = length c.propagate_and_open.new.frames in
    let same = c.in_ok-positions.ensures.kept.number in
    let first =
    least_none x y c.args.meter.now c.strengthen.new.meter (omega (arith, same)) c.in_ok-positions.ensures.bounded.counted.steps
    in
    on_both c.propagate_and_open.result _ _ _
    (λ more h. least_on x y z c.args.meter.now c.strengthen.new.meter c.propagate_and_open.new.meter (omega (arith, same)) more first h)
    c.propagate_and_open.ensures.more c.propagate_and_open.ensures.fewest
