use Rattle.std.proofs.Common.{take}
use Rattle.cdcl.specs.Searching.{AreTrue}
use Rattle.cdcl.proofs.values.values_from.Given as goal

abbrev pub invariant-loop-literal : goal.invariant-loop-literal
invariant-loop-literal l = AreTrue l.values.items (take l.literal-index l.literals)
