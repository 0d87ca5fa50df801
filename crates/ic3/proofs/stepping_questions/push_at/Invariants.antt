use Rattle.std.proofs.Common.{◌≡◌, ◌++◌, take}
use Rattle.cnf_unroll.specs.Numbers.{clause_at_place}
use Rattle.ic3.proofs.stepping_questions.push_at.Given as goal

abbrev pub invariant-loop-literal : goal.invariant-loop-literal
invariant-loop-literal l = l.out.items ≡ l.initial.out.items ++ clause_at_place l.place (take l.literal-index l.cube)
