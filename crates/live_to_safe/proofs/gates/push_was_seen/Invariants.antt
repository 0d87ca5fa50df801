use Rattle.std.proofs.Common.{◌≡◌, ◌++◌}
use Rattle.live_to_safe.specs.Numbers.{positive, seen}
use Rattle.live_to_safe.specs.Watching.{numbered}
use Rattle.live_to_safe.proofs.gates.push_was_seen.Given as goal

abbrev pub invariant-loop-m : goal.invariant-loop-m
invariant-loop-m l = l.all ≡ l.initial.all ++ numbered (λ m. positive (seen l.z m)) 0 l.m
