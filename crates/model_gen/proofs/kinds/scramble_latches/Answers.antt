use Rattle.std.proofs.Common.{◌∙◌}
use Rattle.model_gen.specs.Generated.{scrambled_latch}
use Rattle.model_gen.proofs.Making.{made_push, latch_step, two_later, none_later}
use Rattle.model_gen.proofs.kinds.scramble_latches.Goals as goal

pub loop-i-init : goal.loop-i-init
loop-i-init c = record { latches = c.new-latches.ensures; state = none_later c.args.generator.now.state }

pub loop-i-preserved : goal.loop-i-preserved
loop-i-preserved c =
    let s = c.args.generator.now.state in
    record {
      latches =
          made_push (scrambled_latch s c.args.n) c.loop-i.i c.loop-i.latches c.push.new.self c.draw_latch.result
          c.in_ok-push.ensures.ok c.loop-i.invariant.latches
          (c.draw_latch.ensures.latch ∙ latch_step s c.args.n c.loop-i.i c.loop-i.generator.state c.loop-i.invariant.state);
      state = two_later s c.loop-i.i c.loop-i.generator.state _ c.draw_latch.ensures.state c.loop-i.invariant.state;
    }
