-- What a `Circuit` keeps (scaffolding): a checked circuit, and an order in which its gates can be evaluated.
use Rattle.aig_semantics.specs.Circuits.{Circuit, IsChecked, IsWithinLimits}
use Rattle.circuit.specs.declared.circuits.Circuit.TheInside.{Inside}
use Rattle.circuit.specs.Orders.{IsEvaluationOrder}
use Rattle.circuit.specs.Ordering.{gates_in}

-- the circuit that it is seen as, which knows nothing of that order
abbrev pub seen_as : Inside → Circuit
seen_as s = record {
  max = s.greatest;
  inputs = s.inputs;
  latches = s.latches;
  gates = s.gates;
  constraints = s.constraints;
  justice = s.justice;
  fairness = s.fairness;
}

pub record IsKept (s : Inside) : Type 0 where
  pub checked : IsChecked (seen_as s)
  pub limits : IsWithinLimits (seen_as s)
  pub order : IsEvaluationOrder s.gates (gates_in s.gates s.order)
