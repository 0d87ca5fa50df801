-- The sections of a model as a circuit, and what a reader has seen to (AIGER 1.9; Biere, Heljanko, Wieringa, 2011).
use Rattle.std.specs.Prelude.{ℕ, ◌+◌, ◌*◌, ◌≤◌, List, ◌++◌, length}
use Rattle.std.specs.List.{All}
use Rattle.aig_semantics.specs.declared.limits.TheConstants.{MAX_NUMBER}
use Rattle.aig_semantics.specs.Circuits.{Circuit, defined, used, IsWithinLimits}
use Rattle.circuit.specs.declared.parts.Parts.{Parts}

-- the circuit of a model: all but its outputs and bad literals
abbrev pub circuit_of : Parts → Circuit
circuit_of parts = record {
  max = parts.max;
  inputs = parts.inputs;
  latches = parts.latches;
  gates = parts.gates;
  constraints = parts.constraints;
  justice = parts.justice;
  fairness = parts.fairness;
}

-- what the text of a model shows of each number by itself, and of each list
pub record AreInRange (parts : Parts) : Type 0 where
  pub variables : All (λ v. (1 ≤ v) × (v ≤ parts.max)) (defined (circuit_of parts))
  pub limits : IsWithinLimits (circuit_of parts)
  pub literals : All (λ literal. literal ≤ 2 * parts.max + 1) (parts.outputs ++ parts.bad)
  pub outputs : length parts.outputs ≤ MAX_NUMBER
  pub bad : length parts.bad ≤ MAX_NUMBER

-- the literals that a model uses
abbrev pub used_by : Parts → List ℕ
used_by parts = used (circuit_of parts) ++ parts.outputs ++ parts.bad
