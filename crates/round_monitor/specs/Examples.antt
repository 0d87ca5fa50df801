-- Monitors of a toggling latch, and a run of one, for the worked rows.
use Rattle.std.specs.Prelude.{Bool, true, false, List, [], ◌∷◌, None}
use Rattle.aig_semantics.specs.declared.traces.Position.{Position}
use Rattle.aiger_grammar.specs.Models.{Model}
use Rattle.live_to_safe.specs.Watching.{zero_latch, and_gate}

-- the toggling latch, variable 1, whose property is that it is true, monitored for two rounds
abbrev pub toggle_counted : Model
toggle_counted = record {
  circuit = record {
    max = 9;
    inputs = [];
    latches = zero_latch 1 3 ∷ zero_latch 2 12 ∷ zero_latch 3 15 ∷ zero_latch 4 19 ∷ [];
    gates = and_gate 5 5 3 ∷ and_gate 6 10 11 ∷ and_gate 7 7 10 ∷ and_gate 8 6 11 ∷ and_gate 9 9 17 ∷ [];
    constraints = [];
    justice = [];
    fairness = [];
  };
  outputs = [];
  bad = [];
  names = record { symbols = []; comment = None };
}

-- the same latch with a property that has no literal, monitored for one round: each position is one
abbrev pub positions_counted : Model
positions_counted = record {
  circuit = record {
    max = 3;
    inputs = [];
    latches = zero_latch 1 3 ∷ zero_latch 2 7 ∷ [];
    gates = and_gate 3 5 0 ∷ [];
    constraints = [];
    justice = [];
    fairness = [];
  };
  outputs = [];
  bad = [];
  names = record { symbols = []; comment = None };
}

-- the values of the toggling latch, of what was seen, and of the two counters
abbrev pub counted : Bool → Bool → Bool → Bool → Position
counted latch seen one two = record { latches = latch ∷ seen ∷ one ∷ two ∷ []; inputs = [] }

-- the latch is true at the second and at the fourth position, where a round ends each time
abbrev pub two_rounds : List Position
two_rounds =
    counted false false false false ∷ counted true false false false ∷ counted false false true false
    ∷ counted true false true false ∷ []
