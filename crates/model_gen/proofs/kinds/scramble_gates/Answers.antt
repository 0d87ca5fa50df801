use Rattle.std.proofs.Common.{◌∙◌}
use Rattle.model_gen.specs.Generated.{scrambled_gate}
use Rattle.model_gen.proofs.Making.{made_push, gate_step, two_later, none_later}
use Rattle.model_gen.proofs.kinds.scramble_gates.Goals as goal

pub loop-k-init : goal.loop-k-init
loop-k-init c = record { gates = c.new-gates.ensures; state = none_later c.args.generator.now.state }

pub loop-k-preserved : goal.loop-k-preserved
loop-k-preserved c =
    let s = c.args.generator.now.state in
    record {
      gates =
          made_push (scrambled_gate s c.args.n) c.loop-k.k c.loop-k.gates c.push.new.self c.draw_gate.result
          c.in_ok-push.ensures.ok c.loop-k.invariant.gates
          (c.draw_gate.ensures.gate ∙ gate_step s c.args.n c.loop-k.k c.loop-k.generator.state c.loop-k.invariant.state);
      state = two_later s c.loop-k.k c.loop-k.generator.state _ c.draw_gate.ensures.state c.loop-k.invariant.state;
    }
