use Rattle.std.proofs.Common.{◌≡◌, ◌++◌, map, take}
use Rattle.proof_semantics.specs.Clauses.{negation}
use Rattle.lrat.proofs.judging.assume_negations.Given as goal

-- the negations of the literals so far are assumed
abbrev pub invariant-loop-literal : goal.invariant-loop-literal
invariant-loop-literal l = l.marks ≡ l.initial.marks ++ map negation (take l.literal-index l.literals)
