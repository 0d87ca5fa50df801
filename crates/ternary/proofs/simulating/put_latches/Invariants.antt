use Rattle.std.proofs.Common.{◌≡◌, drop, map}
use Rattle.ternary.specs.Writing.{with_values3}
use Rattle.ternary.proofs.simulating.put_latches.Given as goal

abbrev pub invariant-loop-k : goal.invariant-loop-k
invariant-loop-k g l =
    with_values3 (drop l.k (map (λ latch. latch.var) l.latches)) (drop l.k l.values) l.out
    ≡ with_values3 (map (λ latch. latch.var) l.latches) l.values l.initial.out
