use Rattle.std.proofs.Common.{◌≡◌, take, map}
use Rattle.proof_semantics.specs.Clauses.{negation}
use Rattle.cdcl.proofs.refusing.negations.Given as goal

abbrev pub invariant-loop-literal : goal.invariant-loop-literal
invariant-loop-literal l = l.negated.items ≡ map negation (take l.literal-index l.literals)
