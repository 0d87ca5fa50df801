use Rattle.std.proofs.Common.{◌≡◌, map, take}
use Rattle.aig_semantics.specs.Literals.{literal_in}
use Rattle.circuit.proofs.evaluating.next_into.Given as goal

abbrev pub invariant-loop-k : goal.invariant-loop-k
invariant-loop-k l = take l.k l.out ≡ map (λ latch. literal_in l.values latch.next) (take l.k l.latch-items)
