use Rattle.std.proofs.Common.{◌+◌, ◌∙◌, ap, set}
use Rattle.ternary.specs.declared.values.Value3.TheVariants.{X}
use Rattle.ternary.proofs.Words.{bit-is, bit-clear}
use Rattle.ternary.proofs.Ahead.{forgotten-more, forgotten-same}
use Rattle.ternary.proofs.lifting.forget_where.Goals.{then-word-n-eq1, else-word-n-eq1}
use Rattle.ternary.proofs.lifting.forget_where.Goals as goal

pub loop-n-preserved : goal.loop-n-preserved
loop-n-preserved c =
    elim c.if-word-n-eq1.branch [
      | then-word-n-eq1 w ↦
          w.state-is
          ∙ (ap (λ xs. set xs (c.args.i + c.loop-n.n) X) c.loop-n.invariant
          ∙ forgotten-more c.args.word c.loop-n.n c.args.i c.args.state.now (bit-is c.args.word c.loop-n.n 1 w.if-word-n-eq1.true))
      | else-word-n-eq1 w ↦
          w.state-is
          ∙ (c.loop-n.invariant ∙ forgotten-same c.args.word c.loop-n.n c.args.i c.args.state.now (bit-clear c.args.word c.loop-n.n w.if-word-n-eq1.false))
    ]
