-- The sections of the translation, as they are put together (scaffolding).
use Rattle.std.specs.Prelude.{ℕ, [], ◌∷◌}
use Rattle.aig_semantics.specs.Circuits.{Circuit}
use Rattle.circuit.specs.declared.parts.Parts.{Parts}
use Rattle.live_to_safe.specs.Numbers.{sizes_of}
use Rattle.live_to_safe.specs.Watching.{bad_literal}
use Rattle.live_to_safe.specs.Translation.{safety_circuit}

abbrev pub safety_parts : Circuit → ℕ → Parts
safety_parts c j = record {
  max = (safety_circuit c j).max;
  inputs = (safety_circuit c j).inputs;
  latches = (safety_circuit c j).latches;
  gates = (safety_circuit c j).gates;
  outputs = [];
  bad = bad_literal (sizes_of c j) ∷ [];
  constraints = c.constraints;
  justice = [];
  fairness = [];
}
