use Rattle.std.proofs.Common.{◌≡◌, map, take}
use Rattle.proof_semantics.specs.Clauses.{values_of}
use Rattle.ic3_questions.proofs.trials.values_in.Given as goal

abbrev pub invariant-loop-number : goal.invariant-loop-number
invariant-loop-number l = l.out ≡ map (values_of l.values) (take l.number-index l.place)
