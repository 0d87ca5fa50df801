use Rattle.std.proofs.Common.{◌≡◌, map, take}
use Rattle.slice.proofs.symbols.latch_variables.Given as goal

abbrev pub invariant-loop-latch : goal.invariant-loop-latch
invariant-loop-latch l = l.variables ≡ map (λ latch. latch.var) (take l.latch-index l.latch-items)
