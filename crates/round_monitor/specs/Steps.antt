-- The sections of the monitor as they are put together (scaffolding).
use Rattle.std.specs.Prelude.{ℕ, []}
use Rattle.aig_semantics.specs.Circuits.{Circuit}
use Rattle.circuit.specs.declared.parts.Parts.{Parts}
use Rattle.round_monitor.specs.Monitor.{monitor_circuit}

abbrev pub monitor_parts : Circuit → ℕ → ℕ → Parts
monitor_parts c j k = record {
  max = (monitor_circuit c j k).max;
  inputs = (monitor_circuit c j k).inputs;
  latches = (monitor_circuit c j k).latches;
  gates = (monitor_circuit c j k).gates;
  outputs = [];
  bad = [];
  constraints = c.constraints;
  justice = [];
  fairness = [];
}
