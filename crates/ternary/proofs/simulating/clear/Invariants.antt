use Rattle.std.proofs.Common.{◌≡◌, replicate, take}
use Rattle.ternary.proofs.simulating.clear.Given as goal

abbrev pub invariant-loop-value : goal.invariant-loop-value
invariant-loop-value g l = take l.value-index l.out ≡ replicate l.value-index l.zero
