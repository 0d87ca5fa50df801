use Rattle.std.proofs.Common.{◌≡◌, take, false}
use Rattle.std.specs.List.{list_any}
use Rattle.proof_semantics.specs.Clauses.{has_literal, negation}
use Rattle.proof_semantics.specs.declared.literals.Lit.{Lit}
use Rattle.cdcl.proofs.conditions.opposite.Given as goal

abbrev pub invariant-loop-literal : goal.invariant-loop-literal
invariant-loop-literal l = list_any (λ (a : Lit). has_literal l.literals (negation a)) (take l.literal-index l.literals) ≡ false
