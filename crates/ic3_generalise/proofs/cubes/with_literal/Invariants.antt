use Rattle.std.proofs.Common.{◌≡◌, take}
use Rattle.ic3_generalise.specs.Cubes.{with_literal}
use Rattle.ic3_generalise.proofs.cubes.with_literal.Given as goal

abbrev pub invariant-loop-other : goal.invariant-loop-other
invariant-loop-other l = l.longer ≡ with_literal (take l.other-index l.other-items) l.part l.literal
