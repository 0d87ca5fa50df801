use Rattle.std.proofs.Common.{◌+◌, ◌∙◌, ap, sym, get_or, arith}
use Rattle.std.proofs.lemmas.List.{get_or_default}
use Rattle.ternary.specs.declared.values.Value3.TheVariants.{X}
use Rattle.ternary.specs.Lifting.{hidden_at, forgotten}
use Rattle.ternary.proofs.Ahead.{put-next, put-end, get_or-forgotten, length-forgotten}
use Rattle.ternary.proofs.lifting.put_ahead.Goals as goal

pub loop-v-init : goal.loop-v-init
loop-v-init c = λ w below. absurd (omega arith)

pub loop-v-preserved : goal.loop-v-preserved
loop-v-preserved c =
    put-next (λ k w. hidden_at c.args.word (k + 1) c.args.i w (get_or c.args.state.now w X)) c.loop-v.ahead c.loop-v.v c.ahead_of.result
    (let long = c.requires in let same = c.loop-v.auto.ahead in let turn = c.loop-v-test.true in omega arith)
    c.loop-v.invariant
    (λ k below.
    c.ahead_of.ensures k below
    ∙ ap (λ x. hidden_at c.args.word (k + 1) c.args.i c.loop-v.v x) (get_or_default c.args.state.now c.loop-v.v _ X c.loop-v-test.true))

pub returns : goal.returns
returns c =
    λ k below.
    put-end (λ j w. hidden_at c.args.word (j + 1) c.args.i w (get_or c.args.state.now w X)) c.loop-v.ahead c.loop-v.v k (forgotten c.args.word (k + 1) c.args.i c.args.state.now)
    (c.loop-v.auto.ahead ∙ (c.requires ∙ sym (length-forgotten c.args.word (k + 1) c.args.i c.args.state.now)))
    (let long = c.requires in let same = c.loop-v.auto.ahead in let turn = c.loop-v-test.false in omega arith)
    c.loop-v.invariant below
    (λ w inside. sym (get_or-forgotten c.args.word (k + 1) c.args.i w c.args.state.now (omega (arith, length-forgotten c.args.word (k + 1) c.args.i c.args.state.now))))
