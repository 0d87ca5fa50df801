use Rattle.std.proofs.Common.{◌≡◌, ◌++◌, take}
use Rattle.ic3.proofs.stepping_questions.assume_true.Given as goal

abbrev pub invariant-loop-literal : goal.invariant-loop-literal
invariant-loop-literal l = l.out.items ≡ l.initial.out.items ++ take l.literal-index l.literals
