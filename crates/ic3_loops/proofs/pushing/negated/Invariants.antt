use Rattle.std.proofs.Common.{◌≡◌, map, take}
use Rattle.proof_semantics.specs.Clauses.{negation}
use Rattle.ic3_loops.proofs.pushing.negated.Given as goal

abbrev pub invariant-loop-literal : goal.invariant-loop-literal
invariant-loop-literal l = l.cube ≡ map negation (take l.literal-index l.literal-items)
