use Rattle.std.proofs.Common.{take}
use Rattle.waves.specs.Kept.{GetsWires}
use Rattle.waves.proofs.named.push_wires.Given as goal

abbrev pub invariant-loop-wire : goal.invariant-loop-wire
invariant-loop-wire l = GetsWires l.names l.sources l.fn.named.items (take l.wire-index l.wires) l.named.items
