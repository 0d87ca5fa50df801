-- Cubes whose negation may become a lemma (scaffolding): no step enters them from a frame, and they miss the starts (IC3:
-- Bradley, 2011).
use Rattle.std.specs.Prelude.{◌≡◌, ℕ, ◌+◌, ◌<◌, ◌≤◌, true, List, length, Option, Some, None}
use Rattle.proof_semantics.specs.declared.literals.Lit.{Lit}
use Rattle.proof_semantics.specs.Clauses.{is_part}
use Rattle.ic3_semantics.specs.Stepping.{Stepping, IsOver}
use Rattle.ic3_generalise.specs.Cubes.{misses_starts}
use Rattle.ic3_loops.specs.Blocking.{NoneEnters}

-- A cube over the latches that misses the starts, and that no step from the frame of the level enters.
pub record IsExcluded (starts : List Lit) (st : Stepping) (level : ℕ) (cube : List Lit) : Type 0 where
  pub over : IsOver (length st.question.circuit.latches) cube
  pub misses : misses_starts starts cube ≡ true
  pub none : NoneEnters st level cube

-- what is told of a cube: a part of it that is excluded as it is, or that it is not
abbrev pub IsAsked : List Lit → Stepping → ℕ → List Lit → Option (List Lit) → Type 0
IsAsked starts st level cube (Some part) =
    IsExcluded starts st level cube × (is_part part cube ≡ true) × IsExcluded starts st level part
IsAsked starts st level cube None = IsExcluded starts st level cube → ⊥

-- A level below the last, from this one on, from whose frame no step enters the cube.
pub record IsHeldFrom (starts : List Lit) (st : Stepping) (frames below : ℕ) (cube : List Lit) (level : ℕ) : Type 0 where
  pub least : below ≤ level
  pub inside : level + 1 < frames
  pub excluded : IsExcluded starts st level cube
