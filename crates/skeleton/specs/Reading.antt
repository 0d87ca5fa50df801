-- Scaffolding of inner functions. Uses of all entries, and literals of states.
use Rattle.std.specs.Prelude.{ℕ, ◌+◌, Bool, List, [], ◌∷◌, length, max, if◌then◌else◌}
use Rattle.aig_semantics.specs.Circuits.{Circuit, fair_literals}
use Rattle.proof_semantics.specs.Clauses.{has_literal}
use Rattle.proof_semantics.specs.declared.literals.Lit.{Lit}
use Rattle.fair_semantics.specs.declared.entries.Side.TheVariants.{Any}
use Rattle.fair_semantics.specs.declared.entries.Use.{Use}
use Rattle.fair_semantics.specs.Entries.{Entry}

-- how many situations a skeleton of property j has
abbrev pub situation_count : Circuit → ℕ → ℕ
situation_count c j = max 1 (length (fair_literals c j))

-- each of these entries, from number n on, is used, and no side is named
abbrev pub uses_from : ℕ → List Entry → List Use
uses_from n [] = []
uses_from n (e ∷ entries) = record { entry = n; side = Any } ∷ uses_from (n + 1) entries

-- each number has the value beside it
abbrev pub state_literals : List ℕ → List Bool → List Lit
state_literals [] state = []
state_literals (k ∷ place) [] = []
state_literals (k ∷ place) (b ∷ state) = record { var = k; positive = b } ∷ state_literals place state

-- The assumptions that the core holds, over their numbers from n on.
abbrev pub core_cube : List Lit → ℕ → List Lit → List Lit
core_cube core n [] = []
core_cube core n (a ∷ assumptions) =
    if has_literal core a then record { var = n; positive = a.positive } ∷ core_cube core (n + 1) assumptions
    else core_cube core (n + 1) assumptions
