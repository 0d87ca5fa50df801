use Rattle.std.proofs.Common.{◌≡◌, ◌++◌, take}
use Rattle.lasso_clauses.proofs.growing.fair_literals.Given as goal

abbrev pub invariant-loop-literal : goal.invariant-loop-literal
invariant-loop-literal l = l.literals ≡ l.initial.literals ++ take l.literal-index l.literal-items
