use Rattle.std.proofs.Common.{◌≡◌, map, take}
use Rattle.lasso_clauses.specs.Moving.{moved_literal}
use Rattle.lasso_clauses.proofs.parts.moved.Given as goal

abbrev pub invariant-loop-literal : goal.invariant-loop-literal
invariant-loop-literal l = l.higher ≡ map (moved_literal l.base) (take l.literal-index l.literal-items)
