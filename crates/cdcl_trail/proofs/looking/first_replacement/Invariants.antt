use Rattle.std.proofs.Common.{◌≡◌, ◌||◌, drop}
use Rattle.std.specs.List.{list_all}
use Rattle.proof_semantics.specs.Clauses.{lit_eq}
use Rattle.cdcl_trail.specs.Propagation.{is_false}
use Rattle.cdcl_trail.proofs.looking.first_replacement.Given as goal

-- the rest has the answer
abbrev pub invariant-loop-literal : goal.invariant-loop-literal
invariant-loop-literal l =
    list_all (λ b. lit_eq l.other b || is_false l.assignment.steps b) (drop l.literal-index l.clause)
    ≡ list_all (λ b. lit_eq l.other b || is_false l.assignment.steps b) l.clause
