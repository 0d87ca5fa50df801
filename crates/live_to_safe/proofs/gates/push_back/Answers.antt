use Rattle.std.proofs.Common.{◌∙◌, ◌+◌, ◌*◌, ap}
use Rattle.live_to_safe.specs.Numbers.{latch_gate}
use Rattle.live_to_safe.proofs.Lists.{numbered_push}
use Rattle.live_to_safe.proofs.gates.push_back.Goals as goal

pub loop-i-preserved : goal.loop-i-preserved
loop-i-preserved c =
    numbered_push (λ i. 2 * (latch_gate c.args.z i + 5)) c.loop-i.i _ c.loop-i.all c.push.new.self c.positive.result c.in_ok-push.ensures.ok c.loop-i.invariant
    (c.positive.ensures ∙ ap (λ g. 2 * (g + 5)) c.latch_gate.ensures)
