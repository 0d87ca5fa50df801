use Rattle.std.proofs.Common.{◌≡◌, ◌+◌, map, take}
use Rattle.proof_semantics.specs.Clauses.{values_of}
use Rattle.cnf_unroll.proofs.places.values_from.Given as goal

abbrev pub invariant-loop-latch : goal.invariant-loop-latch
invariant-loop-latch l = l.values ≡ map (values_of l.model) (map (λ latch. l.start + latch.var) (take l.latch-index l.latches))
