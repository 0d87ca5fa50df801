use Rattle.std.proofs.Common.{◌≡◌, ◌*◌, ◌++◌, map, drop}
use Rattle.waves.specs.declared.wires.Section.TheVariants.{Latches}
use Rattle.waves.specs.Wires.{elements}
use Rattle.waves.proofs.wires.push_latches.Given as goal

abbrev pub invariant-loop-k : goal.invariant-loop-k
invariant-loop-k l =
    l.wires.items ++ elements Latches l.k (map (λ latch. 2 * latch.var) (drop l.k l.latches))
    ≡ l.fn.wires.items ++ elements Latches 0 (map (λ latch. 2 * latch.var) l.latches)
