use Rattle.std.proofs.Common.{◌≡◌, ◌++◌, map, take}
use Rattle.proof_semantics.specs.Clauses.{negation}
use Rattle.cnf_unroll.proofs.uses.extend_by_negations.Given as goal

abbrev pub invariant-loop-name : goal.invariant-loop-name
invariant-loop-name l = l.out ≡ l.initial.out ++ map negation (take l.name-index l.names)
