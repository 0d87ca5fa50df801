-- A translated circuit, and a bad run of it, for the worked rows.
use Rattle.std.specs.Prelude.{ℕ, Bool, true, false, List, [], ◌∷◌, None}
use Rattle.aig_semantics.specs.declared.parts.Latch.{Latch}
use Rattle.aig_semantics.specs.declared.parts.Gate.{Gate}
use Rattle.aig_semantics.specs.declared.traces.Position.{Position}
use Rattle.aiger_grammar.specs.Models.{Model}
use Rattle.live_to_safe.specs.Watching.{zero_latch, and_gate}

-- the toggling latch, variable 1, whose property is that it is true: an input, three latches and twelve gates more
abbrev pub toggle_watched : Model
toggle_watched = record {
  circuit = record {
    max = 17;
    inputs = 2 ∷ [];
    latches = zero_latch 1 3 ∷ zero_latch 3 15 ∷ zero_latch 4 21 ∷ zero_latch 5 30 ∷ [];
    gates =
        and_gate 6 4 7 ∷ and_gate 7 5 7 ∷ and_gate 8 12 2 ∷ and_gate 9 13 8 ∷ and_gate 10 17 19 ∷ and_gate 11 2 9 ∷ and_gate 12 3 8
        ∷ and_gate 13 23 25 ∷ and_gate 14 11 3 ∷ and_gate 15 15 29 ∷ and_gate 16 6 26 ∷ and_gate 17 32 10 ∷ [];
    constraints = [];
    justice = [];
    fairness = [];
  };
  outputs = [];
  bad = 34 ∷ [];
  names = record { symbols = []; comment = None };
}

-- the values of the toggling latch, of whether a state was saved, of the copy and of what was seen; and the input
abbrev pub watched : Bool → Bool → Bool → Bool → Bool → Position
watched latch saved copy seen save = record { latches = latch ∷ saved ∷ copy ∷ seen ∷ []; inputs = save ∷ [] }

-- the 0 is saved at once; the latch is true at the second position, and at the third the 0 comes again
abbrev pub once_round : List Position
once_round =
    watched false false false false true ∷ watched true true false false false ∷ watched false true false true false ∷ []

-- the same without the third position
abbrev pub half_round : List Position
half_round = watched false false false false true ∷ watched true true false false false ∷ []
