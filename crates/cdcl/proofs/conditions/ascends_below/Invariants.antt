use Rattle.std.proofs.Common.{◌≡◌, drop}
use Rattle.cdcl.specs.Ascending.{ascends_below}
use Rattle.cdcl.proofs.conditions.ascends_below.Given as goal

abbrev pub invariant-loop-literal : goal.invariant-loop-literal
invariant-loop-literal l = ascends_below l.bound l.last (drop l.literal-index l.literals) ≡ ascends_below l.bound 0 l.literals
