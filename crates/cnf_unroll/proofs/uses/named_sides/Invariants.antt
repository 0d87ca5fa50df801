use Rattle.std.proofs.Common.{◌≡◌, take}
use Rattle.cnf_unroll.specs.Sides.{side_in}
use Rattle.cnf_unroll.specs.Uses.{named_sides}
use Rattle.cnf_unroll.proofs.uses.named_sides.Given as goal

abbrev pub invariant-loop-named : goal.invariant-loop-named
invariant-loop-named l = l.names ≡ named_sides (side_in l.sides) (take l.named-index l.uses)
