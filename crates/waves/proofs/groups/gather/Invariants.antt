use Rattle.std.proofs.Common.{◌≡◌, [], fold, take}
use Rattle.waves.specs.Buses.{with_named}
use Rattle.waves.proofs.groups.gather.Given as goal

abbrev pub invariant-loop-named : goal.invariant-loop-named
invariant-loop-named l = l.groups ≡ fold with_named [] (take l.named-index l.wires)
