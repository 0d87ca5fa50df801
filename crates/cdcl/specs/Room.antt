-- Scaffolding of inner functions. How many clauses a solver can still learn.
use Rattle.std.specs.Prelude.{ℕ, ◌+◌, Bool, true, false, List, [], ◌∷◌, ◌++◌, map, if◌then◌else◌}
use Rattle.proof_semantics.specs.Clauses.{is_subsumed}
use Rattle.proof_semantics.specs.declared.literals.Lit.{Lit}

abbrev pub lit : ℕ → Bool → Lit
lit v positive = record { var = v; positive = positive }

-- How many clauses have the literals of `part`, and of each variable the literal, its negation or none, and contain no
-- held clause.
abbrev pub room_from : List (List Lit) → List ℕ → List Lit → ℕ
room_from held [] part = if is_subsumed held part then 0 else 1
room_from held (v ∷ vars) part = room_from held vars part + (room_from held vars (lit v true ∷ part) + room_from held vars (lit v false ∷ part))

abbrev pub clause_room : List ℕ → List (List Lit) → ℕ
clause_room vars held = room_from held vars []

-- the variables of literals, and of clauses
abbrev pub literal_variables : List Lit → List ℕ
literal_variables lits = map (λ a. a.var) lits

abbrev pub variables_in : List (List Lit) → List ℕ
variables_in [] = []
variables_in (clause ∷ clauses) = literal_variables clause ++ variables_in clauses
