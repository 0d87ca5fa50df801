-- Scaffolding of proofs. What falls with each literal that a clause forces.
use Rattle.std.specs.Prelude.{ℕ, ◌+◌, List, [], ◌∷◌, if◌then◌else◌}
use Rattle.std.specs.List.{list_any}
use Rattle.proof_semantics.specs.declared.literals.Lit.{Lit}
use Rattle.cdcl_trail.specs.Trails.{Step}
use Rattle.cdcl_trail.specs.Propagation.{is_true}

-- how many clauses have no true literal
abbrev pub unsatisfied : List (List Lit) → List Step → ℕ
unsatisfied [] steps = 0
unsatisfied (clause ∷ clauses) steps =
    if list_any (is_true steps) clause then unsatisfied clauses steps else unsatisfied clauses steps + 1
