use Rattle.std.proofs.Common.{◌≡◌, ◌++◌, take}
use Rattle.lasso_clauses.proofs.numbers.extend.Given as goal

abbrev pub invariant-loop-literal : goal.invariant-loop-literal
invariant-loop-literal l = l.clause ≡ l.initial.clause ++ take l.literal-index l.more
