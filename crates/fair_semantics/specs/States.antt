-- States, sets of states, and steps. A state is a list with a value for each latch. A set of states is a test.
use Rattle.std.specs.Prelude.{◌≡◌, ℕ, ◌+◌, Bool, true, false, not, List, [], ◌∷◌, ◌++◌}
use Rattle.aig_semantics.specs.declared.parts.Latch.{Latch}
use Rattle.aig_semantics.specs.declared.parts.Reset.{Reset}
use Rattle.aig_semantics.specs.declared.parts.Reset.TheVariants.{Zero, One, Free}
use Rattle.aig_semantics.specs.declared.traces.Position.{Position}
use Rattle.aig_semantics.specs.Circuits.{Circuit}
use Rattle.aig_semantics.specs.Runs.{successor, MeetsConstraints}
use Rattle.proof_semantics.specs.declared.literals.Lit.{Lit}
use Rattle.proof_semantics.specs.Clauses.{bool_eq, clauses_value, values_of}

-- the state makes each of these clauses over latch numbers true
abbrev pub meets_clauses : List (List Lit) → List Bool → Bool
meets_clauses clauses s = clauses_value (values_of s) clauses

-- some position with the latches s, at which every constraint is true, has the successor t
pub record IsStep (c : Circuit) (s t : List Bool) : Type 0 where
  pub position : Position
  pub possible : MeetsConstraints c position
  pub begins : position.latches ≡ s
  pub ends : successor c position ≡ t

-- exactly one of s and t is in the set
abbrev pub crosses : (List Bool → Bool) → List Bool → List Bool → Bool
crosses set s t = not (bool_eq (set s) (set t))

-- The initial cube: a literal for each latch whose reset is 0 or 1, from latch n on.
abbrev pub reset_literals : ℕ → Reset → List Lit
reset_literals n Zero = record { var = n; positive = false } ∷ []
reset_literals n One = record { var = n; positive = true } ∷ []
reset_literals n Free = []

abbrev pub initial_literals : ℕ → List Latch → List Lit
initial_literals n [] = []
initial_literals n (latch ∷ latches) = reset_literals n latch.reset ++ initial_literals (n + 1) latches

abbrev pub initial_cube : Circuit → List Lit
initial_cube c = initial_literals 0 c.latches
