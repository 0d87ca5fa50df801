-- Cubes of states, and whether a cube misses the starts of a search (IC3: Bradley, 2011).
use Rattle.std.specs.Prelude.{◌≡◌, ℕ, ◌+◌, Bool, true, ◌||◌, List, [], ◌∷◌, filter}
use Rattle.std.specs.List.{list_any}
use Rattle.proof_semantics.specs.declared.literals.Lit.{Lit}
use Rattle.proof_semantics.specs.Clauses.{lit_eq, negation, has_literal, is_part}

-- a literal for each value, from latch n on
abbrev pub value_literals : ℕ → List Bool → List Lit
value_literals n [] = []
value_literals n (value ∷ values) = record { var = n; positive = value } ∷ value_literals (n + 1) values

-- the cube misses the starts by one literal
abbrev pub misses_starts : List Lit → List Lit → Bool
misses_starts starts cube = list_any (λ l. has_literal cube (negation l)) starts

-- a literal of the cube whose negation is one of the starts'
pub record IsOpposed (starts cube : List Lit) (l : Lit) : Type 0 where
  pub own : has_literal cube l ≡ true
  pub against : has_literal starts (negation l) ≡ true

-- the literals of a cube that stand in a part of it, or are this one
abbrev pub with_literal : List Lit → List Lit → Lit → List Lit
with_literal cube part l = filter (λ a. has_literal part a || lit_eq a l) cube

-- A part of the cube that holds a given part, and misses the starts.
pub record IsBased (starts cube part based : List Lit) : Type 0 where
  pub among : is_part based cube ≡ true
  pub holds : is_part part based ≡ true
  pub misses : misses_starts starts based ≡ true
