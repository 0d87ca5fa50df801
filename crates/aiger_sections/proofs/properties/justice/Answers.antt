use Rattle.std.proofs.lemmas.Result.{err_from_is_err_and}
use Rattle.aiger_sections.proofs.JusticeLoop.{property_read, property_fails, all_read}
use Rattle.aiger_sections.proofs.properties.justice.Goals as goal

pub returns-in_err-property : goal.returns-in_err-property
returns-in_err-property c =
    let p = err_from_is_err_and c.from_residual.result c.from_residual.ensures.1 in
    rw (p.1, p.2) (property_fails c.in_err-property.field-0.0 c.args.max c.args.total c.loop-size.properties c.args.sizes.now c.loop-size.size-index 0 c.loop-size.rest.now _ c.loop-size-test.true c.in_err-property.ensures c.loop-size.invariant)

pub loop-size-preserved : goal.loop-size-preserved
loop-size-preserved c =
    rw c.in_ok-push.ensures.ok (property_read c.args.max c.args.total c.loop-size.properties c.args.sizes.now c.loop-size.size-index 0 c.loop-size.rest.now c.in_ok-property.property c.in_ok-property.after.now _ c.loop-size-test.true c.in_ok-property.ensures c.loop-size.invariant)

pub returns : goal.returns
returns c = all_read c.args.max c.args.total c.loop-size.properties c.args.sizes.now c.loop-size.size-index c.loop-size.rest.now _ c.loop-size-test.false c.loop-size.invariant
