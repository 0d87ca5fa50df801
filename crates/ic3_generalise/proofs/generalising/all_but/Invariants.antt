use Rattle.std.proofs.Common.{◌≡◌, take}
use Rattle.ic3_generalise.specs.Generalising.{all_but}
use Rattle.ic3_generalise.proofs.generalising.all_but.Given as goal

abbrev pub invariant-loop-other : goal.invariant-loop-other
invariant-loop-other l = l.rest ≡ all_but l.literal (take l.other-index l.other-items)
