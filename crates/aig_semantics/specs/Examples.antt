-- Small circuits and stimuli, for the worked rows.
use Rattle.std.specs.Prelude.{ℕ, Bool, true, false, List, [], ◌∷◌, reverse, replicate}
use Rattle.aig_semantics.specs.declared.parts.Reset.{Reset}
use Rattle.aig_semantics.specs.declared.parts.Reset.TheVariants.{Zero, Free}
use Rattle.aig_semantics.specs.declared.traces.Stimulus.{Stimulus}
use Rattle.aig_semantics.specs.Circuits.{Circuit}

-- one latch, variable 1, with this next literal and reset; the property is that it is true
abbrev pub one_latch : ℕ → Reset → Circuit
one_latch next reset = record {
  max = 1;
  inputs = [];
  latches = record { var = 1; next = next; reset = reset } ∷ [];
  gates = [];
  constraints = [];
  justice = (2 ∷ []) ∷ [];
  fairness = [];
}

-- the latch takes its negation, from 0 on
abbrev pub toggle : Circuit
toggle = one_latch 3 Zero

-- the same with a property that has no literal
abbrev pub toggle_of_nothing : Circuit
toggle_of_nothing = record toggle { justice = [] ∷ [] }

-- the latch keeps its 0
abbrev pub stuck : Circuit
stuck = one_latch 2 Zero

-- the latch keeps whatever it begins with
abbrev pub kept : Circuit
kept = one_latch 2 Free

-- the same, with the constraint that the latch is false
abbrev pub kept_false : Circuit
kept_false = record kept { constraints = 3 ∷ [] }

-- the latch becomes true and stays so, and fairness asks that it is false
abbrev pub rising : Circuit
rising = record (one_latch 1 Zero) { fairness = 3 ∷ [] }

-- no latch, and the property is that the one input is true
abbrev pub one_input : Circuit
one_input = record { max = 1; inputs = 1 ∷ []; latches = []; gates = []; constraints = []; justice = (2 ∷ []) ∷ []; fairness = [] }

-- an input, variable 1, and a latch, variable 2, that keeps its value while the input is true; variable 4 is defined nowhere
abbrev pub input_and_latch : Circuit
input_and_latch = record {
  max = 4;
  inputs = 1 ∷ [];
  latches = record { var = 2; next = 6; reset = Zero } ∷ [];
  gates = record { var = 3; rhs0 = 4; rhs1 = 2 } ∷ [];
  constraints = [];
  justice = (4 ∷ []) ∷ [];
  fairness = [];
}

-- a counter of two bits, which counts from 0; the property is that both are true
abbrev pub counter : Circuit
counter = record {
  max = 6;
  inputs = [];
  latches = record { var = 1; next = 3; reset = Zero } ∷ record { var = 2; next = 11; reset = Zero } ∷ [];
  gates =
      record { var = 3; rhs0 = 5; rhs1 = 2 } ∷ record { var = 4; rhs0 = 4; rhs1 = 3 } ∷ record { var = 5; rhs0 = 9; rhs1 = 7 }
      ∷ record { var = 6; rhs0 = 4; rhs1 = 2 } ∷ [];
  constraints = [];
  justice = (12 ∷ []) ∷ [];
  fairness = [];
}

-- the same counter, with its gates in the other order
abbrev pub counter_reversed : Circuit
counter_reversed = record counter { gates = reverse counter.gates }

-- a gate that reads itself
abbrev pub self_reading : Circuit
self_reading = record {
  max = 2;
  inputs = 1 ∷ [];
  latches = [];
  gates = record { var = 2; rhs0 = 4; rhs1 = 2 } ∷ [];
  constraints = [];
  justice = (4 ∷ []) ∷ [];
  fairness = [];
}

-- these latches, and n positions of no input
abbrev pub without_inputs : List Bool → ℕ → Stimulus
without_inputs latches n = record { latches = latches; inputs = replicate n [] }

-- the lasso of the toggling latch, and then a position with an input that is not there
abbrev pub late_width : Stimulus
late_width = record { latches = false ∷ []; inputs = [] ∷ [] ∷ (true ∷ []) ∷ [] }
