use Rattle.std.proofs.Common.{◌≡◌, map, take}
use Rattle.proof_semantics.specs.Clauses.{negation}
use Rattle.cnf_unroll.specs.Numbers.{literal_at_place}
use Rattle.cnf_unroll.proofs.obligations.negated_at.Given as goal

abbrev pub invariant-loop-literal : goal.invariant-loop-literal
invariant-loop-literal l = l.literals ≡ map (λ x. negation (literal_at_place l.place x)) (take l.literal-index l.literal-items)
