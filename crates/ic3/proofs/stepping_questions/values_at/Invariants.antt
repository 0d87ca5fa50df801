use Rattle.std.proofs.Common.{◌≡◌, map, take}
use Rattle.cdcl.specs.Asking.{assigned}
use Rattle.ic3.proofs.stepping_questions.values_at.Given as goal

abbrev pub invariant-loop-number : goal.invariant-loop-number
invariant-loop-number l = l.values ≡ map (assigned l.solver.values) (take l.number-index l.place)
