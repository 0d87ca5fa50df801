use Rattle.std.proofs.Common.{take}
use Rattle.waves.specs.Kept.{AreSources}
use Rattle.waves.proofs.named.sources_among.Given as goal

abbrev pub invariant-loop-named : goal.invariant-loop-named
invariant-loop-named l = AreSources l.sources (take l.named-index l.wires)
