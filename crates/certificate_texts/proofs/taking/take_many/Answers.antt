use Rattle.std.proofs.lemmas.Result.{err_from_is_err_and}
use Rattle.certificate_texts.proofs.Taken.{goes_on, ends_so, is_done}
use Rattle.certificate_texts.proofs.taking.take_many.Goals as goal

pub returns-in_err-value : goal.returns-in_err-value
returns-in_err-value g c =
    let p = err_from_is_err_and c.from_residual.result c.from_residual.ensures.1 in
    rw (p.1, p.2) (ends_so c.in_err-value.field-0.0 (g.F.Form.taken_at c.args.form.now) c.loop.values c.args.count c.loop.counter c.loop.rest.now _ c.loop-test.true c.in_err-value.ensures c.loop.invariant)

pub loop-preserved : goal.loop-preserved
loop-preserved g c =
    rw c.in_ok-push.ensures.ok (goes_on (g.F.Form.taken_at c.args.form.now) c.loop.values c.args.count c.loop.counter c.loop.rest.now c.in_ok-value.value c.in_ok-value.after.now _ c.loop-test.true c.in_ok-value.ensures c.loop.invariant)

pub returns : goal.returns
returns g c = is_done (g.F.Form.taken_at c.args.form.now) c.loop.values c.args.count c.loop.counter c.loop.rest.now _ c.loop-test.false c.loop.invariant
