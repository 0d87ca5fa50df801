use Rattle.std.proofs.Common.{length, sym, ap, ◌∙◌}
use Rattle.circuit.specs.Following.{seen_with}
use Rattle.circuit.proofs.Following.{way-apart, way-broken, way-on, way-end}
use Rattle.circuit.proofs.lassos.follow.Goals as goal

pub returns-then-len-inputs-clause-answer : goal.returns-then-len-inputs-clause-answer
returns-then-len-inputs-clause-answer c =
    way-apart c.args.c.now c.args.latches.now c.loop-now.latches c.args.inputs.now c.args.literals.now c.args.seen.now c.loop-now.seen
    c.loop-now.now-index c.now-item.result c.loop-now-test.true c.now-item.is c.loop-now.invariant
    (λ e. c.if-len-inputs.true (c.len.ensures ∙ (e ∙ ap length (sym c.inputs.ensures))))

pub returns-then-not-step_along-clause-answer : goal.returns-then-not-step_along-clause-answer
returns-then-not-step_along-clause-answer c =
    way-broken c.args.c.now c.args.latches.now c.loop-now.latches c.args.inputs.now c.args.literals.now c.args.seen.now c.loop-now.seen
    c.loop-now.now-index c.now-item.result c.loop-now-test.true c.now-item.is c.loop-now.invariant
    (sym c.len.ensures ∙ (c.if-len-inputs.false ∙ ap length c.inputs.ensures))
    (sym (rw c.as_slice.ensures at c.step_along.ensures.answer) ∙ c.if-not-step_along.true)

pub loop-now-preserved : goal.loop-now-preserved
loop-now-preserved c =
    way-on c.args.c.now c.args.latches.now c.loop-now.latches c.args.inputs.now c.args.literals.now c.args.seen.now c.loop-now.seen
    c.loop-now.now-index c.now-item.result c.loop-now-test.true c.now-item.is c.loop-now.invariant
    c.step_along.new.latches c.note_seen.new.seen
    (sym c.len.ensures ∙ (c.if-len-inputs.false ∙ ap length c.inputs.ensures))
    (sym (rw c.as_slice.ensures at c.step_along.ensures.answer) ∙ c.if-not-step_along.false)
    (rw c.as_slice.ensures at c.step_along.ensures.latches)
    (c.note_seen.ensures ∙ ap (λ values. seen_with values c.args.literals.now c.loop-now.seen) (rw c.as_slice.ensures at c.step_along.ensures.values))

pub returns-clause-answer : goal.returns-clause-answer
returns-clause-answer c =
    (way-end c.args.c.now c.args.latches.now c.loop-now.latches c.args.inputs.now c.args.literals.now c.args.seen.now c.loop-now.seen c.loop-now.now-index c.loop-now-test.false c.loop-now.invariant).0

pub returns-clause-latches : goal.returns-clause-latches
returns-clause-latches c =
    (way-end c.args.c.now c.args.latches.now c.loop-now.latches c.args.inputs.now c.args.literals.now c.args.seen.now c.loop-now.seen c.loop-now.now-index c.loop-now-test.false c.loop-now.invariant).1

pub returns-clause-seen : goal.returns-clause-seen
returns-clause-seen c =
    (way-end c.args.c.now c.args.latches.now c.loop-now.latches c.args.inputs.now c.args.literals.now c.args.seen.now c.loop-now.seen c.loop-now.now-index c.loop-now-test.false c.loop-now.invariant).2
