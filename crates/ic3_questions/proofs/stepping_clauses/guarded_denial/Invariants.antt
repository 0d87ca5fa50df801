use Rattle.std.proofs.Common.{◌≡◌, take}
use Rattle.ic3_questions.specs.SteppingClauses.{guarded, denied_at}
use Rattle.ic3_questions.proofs.stepping_clauses.guarded_denial.Given as goal

abbrev pub invariant-loop-literal : goal.invariant-loop-literal
invariant-loop-literal l = l.out ≡ guarded l.guard (denied_at l.place (take l.literal-index l.cube))
