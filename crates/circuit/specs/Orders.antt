-- Orders in which the gates of a circuit can be evaluated, each after those that it reads.
use Rattle.std.specs.Prelude.{◌≡◌, ℕ, ◌≤◌, ◌<◌, ◌⊎◌, List, map, drop, length, slice_index_or}
use Rattle.std.specs.List.{All, Contains}
use Rattle.aig_semantics.specs.declared.parts.Gate.{Gate}
use Rattle.aig_semantics.specs.Literals.{variable_of}

-- the gate has this variable on a right side
abbrev pub HasRightSide : Gate → ℕ → Type 0
HasRightSide gate w = (variable_of gate.rhs0 ≡ w) ⊎ (variable_of gate.rhs1 ≡ w)

-- the variables of gates
abbrev pub variables_of : List Gate → List ℕ
variables_of gates = map (λ gate. gate.var) gates

-- The gates, so that none reads a variable that it or a later one defines.
pub record IsEvaluationOrder (gates order : List Gate) : Type 0 where
  pub members : All (λ gate. Contains gates gate) order
  pub complete : All (λ gate. Contains (variables_of order) gate.var) gates
  pub after : (k : ℕ) (d : Gate) → k < length order → (w : ℕ) → HasRightSide (slice_index_or order k d) w
      → Contains (variables_of (drop k order)) w → ⊥
  pub count : length order ≤ length gates
