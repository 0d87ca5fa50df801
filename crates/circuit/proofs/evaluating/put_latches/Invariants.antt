use Rattle.std.proofs.Common.{◌≡◌, drop, map}
use Rattle.circuit.specs.Evaluation.{with_values}
use Rattle.circuit.proofs.evaluating.put_latches.Given as goal

abbrev pub invariant-loop-k : goal.invariant-loop-k
invariant-loop-k l =
    with_values (drop l.k (map (λ latch. latch.var) l.latches)) (drop l.k l.values) l.out
    ≡ with_values (map (λ latch. latch.var) l.latches) l.values l.initial.out
