use Rattle.std.proofs.Common.{◌≡◌, map, take}
use Rattle.proof_semantics.specs.Clauses.{values_of}
use Rattle.cnf_unroll.specs.Numbers.{number}
use Rattle.cnf_unroll.proofs.decoding.input_values.Given as goal

abbrev pub invariant-loop-input : goal.invariant-loop-input
invariant-loop-input l = l.values ≡ map (λ i. values_of l.model (number l.base i)) (take l.input-index l.inputs)
