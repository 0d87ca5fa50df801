use Rattle.std.proofs.Common.{◌≡◌, take}
use Rattle.ic3_questions.specs.SteppingClauses.{part_at}
use Rattle.ic3.proofs.stepping_questions.part_at.Given as goal

abbrev pub invariant-loop-literal : goal.invariant-loop-literal
invariant-loop-literal l = l.part ≡ part_at l.place l.core (take l.literal-index l.literal-items)
