use Rattle.model_gen.specs.Draws.{draw}
use Rattle.model_gen.specs.Generated.{literal_drawn}
use Rattle.std.proofs.Common.{◌∙◌}
use Rattle.model_gen.proofs.Making.{made_push, literal_step, one_later, none_later}
use Rattle.model_gen.proofs.kinds.draw_literals.Goals as goal

pub loop-k-init : goal.loop-k-init
loop-k-init c = record { literals = c.new-literals.ensures; state = none_later c.args.generator.now.state }

pub loop-k-preserved : goal.loop-k-preserved
loop-k-preserved c =
    let s = c.args.generator.now.state in
    record {
      literals =
          made_push (λ k. literal_drawn c.args.n (draw s k)) c.loop-k.k c.loop-k.literals c.push.new.self c.draw_literal.result
          c.in_ok-push.ensures.ok c.loop-k.invariant.literals
          (c.draw_literal.ensures.literal ∙ literal_step s c.args.n c.loop-k.k c.loop-k.generator.state c.loop-k.invariant.state);
      state = one_later s c.loop-k.k c.loop-k.generator.state _ c.draw_literal.ensures.state c.loop-k.invariant.state;
    }
