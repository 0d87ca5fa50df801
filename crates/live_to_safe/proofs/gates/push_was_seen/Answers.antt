use Rattle.std.proofs.Common.{◌∙◌, ◌*◌, ap}
use Rattle.live_to_safe.specs.Numbers.{seen}
use Rattle.live_to_safe.proofs.Lists.{numbered_push}
use Rattle.live_to_safe.proofs.gates.push_was_seen.Goals as goal

pub loop-m-preserved : goal.loop-m-preserved
loop-m-preserved c =
    numbered_push (λ m. 2 * seen c.args.z m) c.loop-m.m _ c.loop-m.all c.push.new.self c.positive.result c.in_ok-push.ensures.ok c.loop-m.invariant
    (c.positive.ensures ∙ ap (λ v. 2 * v) c.seen.ensures)
