use Rattle.std.proofs.Common.{◌≡◌, map, take}
use Rattle.cnf_unroll.specs.Numbers.{number}
use Rattle.ic3_questions.proofs.stepping_places.input_place.Given as goal

abbrev pub invariant-loop-input : goal.invariant-loop-input
invariant-loop-input l = l.place ≡ map (λ i. number 0 i) (take l.input-index l.input-items)
