use Rattle.std.proofs.Common.{◌≡◌, ◌+◌, ◌-◌, ◌<◌, None, get_or, ap, ◌∙◌, arith}
use Rattle.cdcl_trail.specs.Trails.{opened_by, reasons_in}
use Rattle.cdcl.proofs.AboveLaws.{above_more, above_ends, below_place, opens_part}
use Rattle.cdcl.proofs.returning.above_level.Goals as goal

pub places-preserved : goal.places-preserved
places-preserved c =
    let steps = c.args.trail.now.steps in
    let left : 0 < c.places.place = below_place c.args.target steps c.places.levels c.places.place c.places.invariant c.places-test.true in
    let next : c.places.place ≡ (c.places.place - 1) + 1 = omega (arith, left) in
    let opened : c.opened_by-levels.result ≡ opened_by (get_or (reasons_in steps) (c.places.place - 1) None) =
    c.opened_by-levels.ensures ∙ ap (λ xs. opened_by (get_or xs (c.places.place - 1) None)) c.reasons-reasons.ensures in
    let part = opens_part c.args.target steps c.places.levels c.places.place (c.places.place - 1) c.places.invariant next in
    above_more c.args.target steps c.places.levels c.places.place (c.places.place - 1) (c.places.levels - c.opened_by-levels.result) c.places.invariant next c.places-test.true
    (omega (arith, opened, part))

pub returns : goal.returns
returns c =
    above_ends c.args.target c.args.trail.now.steps c.places.levels c.places.place c.literals.result.now c.places.invariant (omega (arith, c.places-test.false)) c.literals.ensures.value
