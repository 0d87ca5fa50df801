-- The value of each variable of a circuit, from the values of its latches and inputs (AIGER 1.9; Biere, Heljanko, Wieringa, 2011).
use Rattle.std.specs.Prelude.{◌≡◌, ◌↔◌, ℕ, zero, suc, ◌+◌, ◌==◌, Bool, false, ◌&&◌, List, [], ◌∷◌, ◌++◌, map, length, Option, Some, None, unwrap_or, if◌then◌else◌}
use Rattle.std.specs.List.{All, Contains, find}
use Rattle.aig_semantics.specs.declared.parts.Gate.{Gate}
use Rattle.aig_semantics.specs.Literals.{literal_by, variable_in}
use Rattle.aig_semantics.specs.Circuits.{Circuit, defined}

-- the conjunction of a gate's right sides
abbrev pub conjunction : (ℕ → Bool) → Gate → Bool
conjunction value gate = literal_by value gate.rhs0 && literal_by value gate.rhs1

-- Variable 0 is false, latches and inputs have the given values, and each gate is the conjunction of its right sides.
pub record MeetsEquations (c : Circuit) (latches inputs : List Bool) (value : ℕ → Bool) : Type 0 where
  pub constant : value 0 ≡ false
  pub given_latches : map (λ latch. value latch.var) c.latches ≡ latches
  pub given_inputs : map value c.inputs ≡ inputs
  pub conjunctions : All (λ gate. value gate.var ≡ conjunction value gate) c.gates

-- The values of the variables 0 to max: they meet the equations, and a variable that is defined nowhere is false.
pub record IsValuation (c : Circuit) (latches inputs values : List Bool) : Type 0 where
  pub size : length values ≡ c.max + 1
  pub equations : MeetsEquations c latches inputs (variable_in values)
  pub nowhere : (v : ℕ) → (Contains (defined c) v → ⊥) → variable_in values v ≡ false

-- The same values, computed. The value that stands beside v
unfoldable pub value_beside : List ℕ → List Bool → ℕ → Option Bool
value_beside [] values v = None
value_beside (u ∷ us) [] v = None
value_beside (u ∷ us) (b ∷ values) v = if u == v then Some b else value_beside us values v

-- the value of a variable that is an input or a latch
unfoldable pub given_value : Circuit → List Bool → List Bool → ℕ → Option Bool
given_value c latches inputs v = value_beside (c.inputs ++ map (λ latch. latch.var) c.latches) (inputs ++ latches) v

-- the value of a gate, and false where there is none
abbrev pub gate_value : (ℕ → Bool) → Option Gate → Bool
gate_value value None = false
gate_value value (Some gate) = conjunction value gate

-- the value of a variable, through a chain of at most this many gates
unfoldable pub value_through : ℕ → List Gate → (ℕ → Option Bool) → ℕ → Bool
value_through zero gates given v = unwrap_or (given v) false
value_through (suc depth) gates given v =
    unwrap_or (given v) (gate_value (value_through depth gates given) (find (λ gate. gate.var == v) gates))

-- value 0, value 1, .. below n
unfoldable pub values_below : ℕ → (ℕ → Bool) → List Bool
values_below zero value = []
values_below (suc n) value = values_below n value ++ value n ∷ []

unfoldable pub valuation : Circuit → List Bool → List Bool → List Bool
valuation c latches inputs = values_below (c.max + 1) (value_through (length c.gates) c.gates (given_value c latches inputs))

-- Latches and inputs that fit the circuit have one valuation, the computed one.
abbrev pub HasOneValuation : Circuit → Type 0
HasOneValuation c =
    (latches inputs values : List Bool) → length latches ≡ length c.latches → length inputs ≡ length c.inputs
    → (IsValuation c latches inputs values ↔ (values ≡ valuation c latches inputs))
