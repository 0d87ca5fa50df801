use Rattle.std.proofs.Common.{◌≡◌, take}
use Rattle.waves.specs.Buses.{lowest}
use Rattle.waves.proofs.buses.lowest.Given as goal

abbrev pub invariant-loop-member : goal.invariant-loop-member
invariant-loop-member l = l.low ≡ lowest (take l.member-index l.members)
