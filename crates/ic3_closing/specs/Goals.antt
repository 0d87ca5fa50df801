-- The question whether clauses exclude a goal (scaffolding).
use Rattle.std.specs.Prelude.{◌≡◌, ℕ, Bool, false, List, ◌++◌, map}
use Rattle.aig_semantics.specs.declared.traces.Position.{Position}
use Rattle.proof_semantics.specs.declared.literals.Lit.{Lit}
use Rattle.proof_semantics.specs.Clauses.{negation}
use Rattle.ic3_semantics.specs.Searching.{Question, MeetsLiteral}

-- a state meets these clauses where it meets the first ones and is in none of the cubes
abbrev pub goal_set : List (List Lit) → List (List Lit) → List (List Lit)
goal_set clauses avoid = clauses ++ map (λ cube. map negation cube) avoid

-- no state of the set is that of a position that meets the literal
abbrev pub MissesLiteral : Question → ℕ → List (List Lit) → (List Bool → Bool) → Type 0
MissesLiteral q literal avoid set = (p : Position) → MeetsLiteral q literal avoid p → set p.latches ≡ false
