-- All properties of a circuit.
use Rattle.std.specs.Prelude.{ℕ, List, length}
use Rattle.std.specs.List.{range_with_len}
use Rattle.aig_semantics.specs.Circuits.{Circuit}

-- the numbers of the properties, from 0 on
abbrev pub property_numbers : Circuit → List ℕ
property_numbers c = range_with_len 0 (length c.justice)

-- the text of no model has more properties: each has a line of two bytes or more
abbrev pub most_properties : ℕ
most_properties = 536870912
