use Rattle.std.proofs.Common.{◌≡◌, map, take}
use Rattle.ternary.specs.Values.{known}
use Rattle.ternary.proofs.lifting.known_values.Given as goal

abbrev pub invariant-loop-value : goal.invariant-loop-value
invariant-loop-value l = l.list.items ≡ map known (take l.value-index l.values)
