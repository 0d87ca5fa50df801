use Rattle.std.proofs.Common.{◌≡◌, false, vec_len}
use Rattle.proof_semantics.specs.Clauses.{has_literal}
use Rattle.proof_semantics.specs.declared.literals.Lit.{Lit}
use Rattle.lrat.specs.Marking.{is_set}
use Rattle.lrat.proofs.marks.Marks.clear.Given as goal

-- what is not assumed any more is not marked
abbrev pub invariant-loop-literal : goal.invariant-loop-literal
invariant-loop-literal l = (a : Lit) → has_literal l.self-inside.assumed.items a ≡ false → is_set l.self-inside.marked a ≡ false

abbrev pub decreases-loop-literal : goal.decreases-loop-literal
decreases-loop-literal l = vec_len l.self-inside.assumed
