use Rattle.std.proofs.Common.{◌≡◌}
use Rattle.live_to_safe.specs.Numbers.{negative}
use Rattle.live_to_safe.specs.Watching.{numbered}
use Rattle.round_monitor.specs.Numbers.{missing}
use Rattle.round_monitor.proofs.gates.none_missing.Given as goal

abbrev pub invariant-loop-m : goal.invariant-loop-m
invariant-loop-m l = l.all ≡ numbered (λ m. negative (missing l.z m)) 0 l.m
