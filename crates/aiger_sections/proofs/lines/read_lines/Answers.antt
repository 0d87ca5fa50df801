use Rattle.std.proofs.lemmas.Result.{err_from_is_err_and}
use Rattle.aiger_sections.proofs.LoopLaws.{goes_on, ends_so, is_done}
use Rattle.aiger_sections.proofs.lines.read_lines.Goals as goal

pub returns-in_err-value : goal.returns-in_err-value
returns-in_err-value g c =
    let p = err_from_is_err_and c.from_residual.result c.from_residual.ensures.1 in
    rw (p.1, p.2) (ends_so c.in_err-value.field-0.0 (λ k. g.L.Line.item_at c.args.line.now k c.args.total) c.loop-number.values c.args.count c.loop-number.number c.loop-number.rest.now _ c.loop-number-test.true c.in_err-value.ensures c.loop-number.invariant)

pub loop-number-preserved : goal.loop-number-preserved
loop-number-preserved g c =
    rw c.in_ok-push.ensures.ok (goes_on (λ k. g.L.Line.item_at c.args.line.now k c.args.total) c.loop-number.values c.args.count c.loop-number.number c.loop-number.rest.now c.in_ok-value.value c.in_ok-value.after.now _ c.loop-number-test.true c.in_ok-value.ensures c.loop-number.invariant)

pub returns : goal.returns
returns g c = is_done (λ k. g.L.Line.item_at c.args.line.now k c.args.total) c.loop-number.values c.args.count c.loop-number.number c.loop-number.rest.now _ c.loop-number-test.false c.loop-number.invariant
