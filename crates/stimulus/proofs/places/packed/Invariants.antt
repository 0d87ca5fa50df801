use Rattle.std.proofs.Common.{drop}
use Rattle.stimulus.proofs.PlaceLemmas.{IsPacking}
use Rattle.stimulus.proofs.places.packed.Given as goal

abbrev pub invariant-loop-value : goal.invariant-loop-value
invariant-loop-value l = IsPacking l.key.items l.byte l.count (drop l.value-index l.state) l.state
