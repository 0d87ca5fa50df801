use Rattle.std.proofs.Common.{◌∙◌, ◌+◌, ◌*◌, [], ap}
use Rattle.round_monitor.specs.Numbers.{missing}
use Rattle.live_to_safe.proofs.Lists.{numbered_push}
use Rattle.round_monitor.proofs.gates.none_missing.Goals as goal

pub loop-m-preserved : goal.loop-m-preserved
loop-m-preserved c =
    numbered_push (λ m. 2 * missing c.args.z m + 1) c.loop-m.m [] c.loop-m.all c.push.new.self c.negative.result c.in_ok-push.ensures.ok c.loop-m.invariant
    (c.negative.ensures ∙ ap (λ v. 2 * v + 1) c.missing.ensures)
