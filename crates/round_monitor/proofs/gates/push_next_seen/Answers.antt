use Rattle.std.proofs.Common.{◌∙◌, ◌+◌, ◌*◌, ap}
use Rattle.live_to_safe.specs.Numbers.{negation}
use Rattle.live_to_safe.specs.Watching.{and_gate}
use Rattle.round_monitor.specs.Numbers.{seen_gate}
use Rattle.round_monitor.specs.Watching.{next_seen_gate, round_ends}
use Rattle.live_to_safe.proofs.Lists.{numbered_push}
use Rattle.round_monitor.proofs.gates.push_next_seen.Goals as goal

pub loop-m-preserved : goal.loop-m-preserved
loop-m-preserved c =
    numbered_push (next_seen_gate c.args.z) c.loop-m.m _ c.loop-m.gates.items _ c.gate.result c.in_ok-push.ensures.items c.loop-m.invariant
    (c.gate.ensures
    ∙ ap (λ v. and_gate v c.negation.result c.negative.result) c.seen_gate.ensures
    ∙ ap (λ x. and_gate (seen_gate c.args.z c.loop-m.m) x c.negative.result) (c.negation.ensures ∙ ap negation c.requires.ends)
    ∙ ap (λ x. and_gate (seen_gate c.args.z c.loop-m.m) (negation (round_ends c.args.z)) x) (c.negative.ensures ∙ ap (λ v. 2 * v + 1) c.missing.ensures))
