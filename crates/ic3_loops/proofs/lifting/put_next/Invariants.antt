use Rattle.std.proofs.Common.{◌≡◌, ◌++◌, map, take}
use Rattle.ic3_loops.specs.Lifting.{next_literal}
use Rattle.ic3_loops.proofs.lifting.put_next.Given as goal

abbrev pub invariant-loop-literal : goal.invariant-loop-literal
invariant-loop-literal l =
    l.keep.items ≡ l.initial.keep.items ++ map (next_literal l.c.latches) (take l.literal-index l.literal-items)
