use Rattle.std.proofs.Common.{◌∙◌, ◌+◌, ◌*◌, ap, ap₂}
use Rattle.live_to_safe.specs.Watching.{zero_latch}
use Rattle.round_monitor.specs.Watching.{counter_latch}
use Rattle.live_to_safe.proofs.Lists.{numbered_push}
use Rattle.round_monitor.proofs.latches.push_counters.Goals as goal

pub loop-i-preserved : goal.loop-i-preserved
loop-i-preserved c =
    numbered_push (counter_latch c.args.z) c.loop-i.i _ c.loop-i.all c.push.new.self c.zero_latch.result c.in_ok-push.ensures.ok c.loop-i.invariant
    (c.zero_latch.ensures ∙ ap₂ zero_latch c.counter.ensures (c.negative.ensures ∙ ap (λ g. 2 * g + 1) c.counter_gate.ensures))
