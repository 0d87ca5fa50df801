-- The slice of a model for a property: what lies in the property's cone (cone of influence; Clarke, Grumberg, Peled, Model
-- Checking, 1999), as a model with this one property. Variables keep their numbers.
use Rattle.std.specs.Prelude.{◌≡◌, ℕ, Bool, [], ◌∷◌, None, slice_index_or}
use Rattle.std.specs.List.{filter, filter_map}
use Rattle.aig_semantics.specs.Circuits.{Circuit}
use Rattle.aiger_grammar.specs.Models.{Model}
use Rattle.cone.specs.Cones.{IsCone}
use Rattle.slice.specs.Symbols.{symbol_left}

-- the inputs, latches and gates whose variables are in the set, in their order; property j; constraints and fairness
abbrev pub sliced_circuit : Circuit → ℕ → (ℕ → Bool) → Circuit
sliced_circuit c j set = record {
  max = c.max;
  inputs = filter set c.inputs;
  latches = filter (λ latch. set latch.var) c.latches;
  gates = filter (λ gate. set gate.var) c.gates;
  constraints = c.constraints;
  justice = slice_index_or c.justice j [] ∷ [];
  fairness = c.fairness;
}

-- the same with the symbols of what is left, and without outputs, bad state literals and comment
abbrev pub sliced_model : Model → ℕ → (ℕ → Bool) → Model
sliced_model m j set = record {
  circuit = sliced_circuit m.circuit j set;
  outputs = [];
  bad = [];
  names = record { symbols = filter_map (symbol_left m.circuit j set) m.names.symbols; comment = None };
}

-- the model of the cone of property j
pub record IsSlice (m : Model) (j : ℕ) (slice : Model) : Type 0 where
  pub cone : ℕ → Bool
  pub is_cone : IsCone m.circuit j cone
  pub model : slice ≡ sliced_model m j cone
