use Rattle.std.proofs.Common.{◌≡◌, take}
use Rattle.stimulus.proofs.replaying.first_inputs.Given as goal

abbrev pub invariant-loop-values : goal.invariant-loop-values
invariant-loop-values l = l.inputs ≡ take l.values-index l.values-items
