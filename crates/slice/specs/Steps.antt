-- Steps of slicing (scaffolding): the sections as they are put together, and the new places as tables.
use Rattle.std.specs.Prelude.{ℕ, ◌+◌, ◌==◌, Bool, List, [], ◌∷◌, map, Option, Some, None, slice_index_or, if◌then◌else◌}
use Rattle.aig_semantics.specs.Circuits.{Circuit}
use Rattle.circuit.specs.declared.parts.Parts.{Parts}
use Rattle.aiger_grammar.specs.declared.names.TheConstants.{INPUT, LATCH, CONSTRAINT, JUSTICE, FAIRNESS}
use Rattle.aiger_grammar.specs.declared.names.Symbol.{Symbol}
use Rattle.slice.specs.declared.symbols.Places.{Places}
use Rattle.slice.specs.Symbols.{at_place}
use Rattle.slice.specs.Slicing.{sliced_circuit}

abbrev pub sliced_parts : Circuit → ℕ → (ℕ → Bool) → Parts
sliced_parts c j set = record {
  max = (sliced_circuit c j set).max;
  inputs = (sliced_circuit c j set).inputs;
  latches = (sliced_circuit c j set).latches;
  gates = (sliced_circuit c j set).gates;
  outputs = [];
  bad = [];
  constraints = (sliced_circuit c j set).constraints;
  justice = (sliced_circuit c j set).justice;
  fairness = (sliced_circuit c j set).fairness;
}

-- the next of the variables in the set has this place, and each after it the next one
abbrev pub places_left : (ℕ → Bool) → ℕ → List ℕ → List (Option ℕ)
places_left set next [] = []
places_left set next (v ∷ variables) =
    (if set v then Some next else None) ∷ places_left set (if set v then next + 1 else next) variables

abbrev pub places_for : Circuit → ℕ → (ℕ → Bool) → Places
places_for c j set = record {
  inputs = places_left set 0 c.inputs;
  latches = places_left set 0 (map (λ latch. latch.var) c.latches);
  property = j;
}

abbrev pub property_left : ℕ → ℕ → Option ℕ
property_left property index = if index == property then Some 0 else None

-- the new place of what a symbol names, by these tables
abbrev pub index_by : List (Option ℕ) → List (Option ℕ) → ℕ → Symbol → Option ℕ
index_by inputs latches property symbol =
    if symbol.letter == INPUT then slice_index_or inputs symbol.index None
    else if symbol.letter == LATCH then slice_index_or latches symbol.index None
    else if symbol.letter == JUSTICE then property_left property symbol.index
    else if symbol.letter == CONSTRAINT then Some symbol.index
    else if symbol.letter == FAIRNESS then Some symbol.index
    else None

abbrev pub symbol_by : Places → Symbol → Option Symbol
symbol_by places symbol = at_place symbol (index_by places.inputs places.latches places.property symbol)
