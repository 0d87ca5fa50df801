use Rattle.std.proofs.Common.{◌≡◌, take, map}
use Rattle.cdcl.specs.UnitNumbers.{unit_number}
use Rattle.cdcl.proofs.refuting.unit_hints.Given as goal

abbrev pub invariant-loop-literal : goal.invariant-loop-literal
invariant-loop-literal l = l.hints.items ≡ map (unit_number l.first l.units) (take l.literal-index l.literals)
