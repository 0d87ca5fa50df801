-- What is kept of the sections of a model.
use Rattle.std.specs.Prelude.{◌≡◌, ◌⊎◌, ℕ, Result, Ok, Err}
use Rattle.circuit.specs.declared.circuits.Circuit.{Circuit as CircuitInCode}
use Rattle.circuit.specs.declared.checking.Kept.{Kept}
use Rattle.circuit.specs.declared.faults.ModelEnd.{ModelEnd}
use Rattle.circuit.specs.declared.faults.ModelEnd.TheVariants.{Fault, Memory}
use Rattle.circuit.specs.declared.faults.ModelFault.{ModelFault}
use Rattle.circuit.specs.declared.faults.ModelFault.TheVariants.{Cycle}
use Rattle.circuit.specs.declared.ordering.Order.{Order}
use Rattle.circuit.specs.declared.parts.Parts.{Parts}
use Rattle.circuit.specs.Sections.{circuit_of}
use Rattle.circuit.specs.Faults.{IsDefined, HasFault, IsOnlyOnCycle}
use Rattle.circuit.specs.Orders.{IsEvaluationOrder}
use Rattle.circuit.specs.Ordering.{gates_in}

-- the circuit, the outputs and the bad state literals of these sections
pub record IsKeptOf (parts : Parts) (kept : Kept) : Type 0 where
  pub circuit : kept.circuit ≡ circuit_of parts
  pub outputs : kept.outputs ≡ parts.outputs
  pub bad : kept.bad ≡ parts.bad

-- the same answer, with the circuit alone of what is kept
abbrev pub HasCircuitOf : Result Kept ModelEnd → Result CircuitInCode ModelEnd → Type 0
HasCircuitOf (Ok kept) (Ok c) = c ≡ kept.circuit
HasCircuitOf (Ok kept) (Err end) = ⊥
HasCircuitOf (Err end) (Ok c) = ⊥
HasCircuitOf (Err end) (Err other) = end ≡ other

-- what is wrong with a model; that a gate depends on itself comes last (scaffolding of inner functions)
abbrev pub TellsFault : Parts → ModelFault → Type 0
TellsFault parts fault = HasFault parts fault ⊎ ((v : ℕ) × (fault ≡ Cycle v) × IsOnlyOnCycle parts v)

-- an order of the gates of a model in which nothing is wrong, or what is wrong, memory aside (scaffolding)
abbrev pub TellsOrder : Parts → Result Order ModelEnd → Type 0
TellsOrder parts (Ok order) = IsDefined parts × IsEvaluationOrder parts.gates (gates_in parts.gates order)
TellsOrder parts (Err Memory) = Unit {0}
TellsOrder parts (Err (Fault fault)) = TellsFault parts fault
