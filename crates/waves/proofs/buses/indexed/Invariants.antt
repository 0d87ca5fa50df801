use Rattle.std.proofs.Common.{take}
use Rattle.waves.specs.Kept.{AreIndexed}
use Rattle.waves.proofs.buses.indexed.Given as goal

abbrev pub invariant-loop-member : goal.invariant-loop-member
invariant-loop-member l = AreIndexed (take l.member-index l.members) l.indexed
