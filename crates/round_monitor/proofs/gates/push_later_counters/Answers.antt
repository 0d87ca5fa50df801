use Rattle.round_monitor.specs.Watching.{later_counter_gates}
use Rattle.round_monitor.proofs.Lists.{each_of-push}
use Rattle.round_monitor.proofs.gates.push_later_counters.Goals as goal

pub loop-i-preserved : goal.loop-i-preserved
loop-i-preserved c =
    each_of-push (later_counter_gates c.args.z) c.loop-i.i _ c.loop-i.gates.items _ c.in_ok-push_later_counter.ensures c.loop-i.invariant
