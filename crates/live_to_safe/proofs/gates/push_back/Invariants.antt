use Rattle.std.proofs.Common.{◌≡◌, ◌++◌, ◌+◌}
use Rattle.live_to_safe.specs.Numbers.{positive, latch_gate}
use Rattle.live_to_safe.specs.Watching.{numbered}
use Rattle.live_to_safe.proofs.gates.push_back.Given as goal

abbrev pub invariant-loop-i : goal.invariant-loop-i
invariant-loop-i l = l.all ≡ l.initial.all ++ numbered (λ i. positive (latch_gate l.z i + 5)) 0 l.i
