use Rattle.std.proofs.Common.{◌≡◌, map, take}
use Rattle.proof_semantics.specs.Clauses.{negation}
use Rattle.ic3_closing.proofs.goals.denial.Given as goal

abbrev pub invariant-loop-literal : goal.invariant-loop-literal
invariant-loop-literal l = l.clause ≡ map negation (take l.literal-index l.cube)
