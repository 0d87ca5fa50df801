use Rattle.std.proofs.Common.{◌≡◌, take}
use Rattle.circuit.proofs.checking.copy_lists.Given as goal

abbrev pub invariant-loop-list : goal.invariant-loop-list
invariant-loop-list l = l.copy ≡ take l.list-index l.list-items
