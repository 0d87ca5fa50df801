use Rattle.std.proofs.Common.{◌≡◌, false, replicate, take}
use Rattle.circuit.proofs.evaluating.clear.Given as goal

abbrev pub invariant-loop-value : goal.invariant-loop-value
invariant-loop-value l = take l.value-index l.out ≡ replicate l.value-index false
