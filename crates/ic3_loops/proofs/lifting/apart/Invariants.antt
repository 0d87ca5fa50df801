use Rattle.std.proofs.Common.{take}
use Rattle.ic3_loops.specs.Lifting.{IsApart}
use Rattle.ic3_loops.proofs.lifting.apart.Given as goal

abbrev pub invariant-loop-k : goal.invariant-loop-k
invariant-loop-k l = IsApart (take l.k l.avoid) l.whole l.fn.part l.longer
