use Rattle.std.proofs.Common.{◌≡◌, take}
use Rattle.cnf_unroll.specs.Numbers.{clause_at_place}
use Rattle.ic3_questions.specs.SteppingClauses.{guarded}
use Rattle.ic3_questions.proofs.stepping_clauses.guarded.Given as goal

abbrev pub invariant-loop-literal : goal.invariant-loop-literal
invariant-loop-literal l = l.out ≡ guarded l.guard (clause_at_place l.place (take l.literal-index l.clause))
