use Rattle.std.proofs.Common.{◌∙◌, ◌+◌, ◌*◌, ap, ap₂}
use Rattle.live_to_safe.specs.Watching.{seen_latch, zero_latch}
use Rattle.live_to_safe.proofs.Lists.{numbered_push}
use Rattle.live_to_safe.proofs.latches.push_seen.Goals as goal

pub loop-m-preserved : goal.loop-m-preserved
loop-m-preserved c =
    numbered_push (seen_latch c.args.z) c.loop-m.m _ c.loop-m.all c.push.new.self c.zero_latch.result c.in_ok-push.ensures.ok c.loop-m.invariant
    (c.zero_latch.ensures ∙ ap₂ zero_latch c.seen.ensures (c.positive.ensures ∙ ap (λ g. 2 * (g + 1)) c.literal_gate.ensures))
