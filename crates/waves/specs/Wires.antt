-- The wires of a dump, in their order: inputs, latches, outputs, bad state literals, constraints, the literals of the named
-- property, fairness (AIGER 1.9; Biere, Heljanko, Wieringa, 2011), and then one that says where the loop is.
use Rattle.std.specs.Prelude.{ℕ, ◌+◌, ◌*◌, Bool, List, [], ◌∷◌, ◌++◌, map, slice_index_or, Option, Some, None}
use Rattle.aig_semantics.specs.Literals.{literal_in}
use Rattle.aiger_grammar.specs.declared.names.TheConstants.{INPUT, LATCH, OUTPUT, BAD, CONSTRAINT, FAIRNESS}
use Rattle.aiger_grammar.specs.Models.{Model}
use Rattle.waves.specs.declared.wires.Section.{Section}
use Rattle.waves.specs.declared.wires.Section.TheVariants.{Inputs, Latches, Outputs, Bad, Constraints, Fairness}
use Rattle.waves.specs.declared.wires.Wire.{Wire}
use Rattle.waves.specs.declared.wires.Wire.TheVariants.{Element, PropertyLiteral, Loop}

-- the letter of a section's symbols
abbrev pub letter_of : Section → ℕ
letter_of Inputs = INPUT
letter_of Latches = LATCH
letter_of Outputs = OUTPUT
letter_of Bad = BAD
letter_of Constraints = CONSTRAINT
letter_of Fairness = FAIRNESS

-- a wire for each literal of the section, the first of which has this index
abbrev pub elements : Section → ℕ → List ℕ → List Wire
elements section index [] = []
elements section index (literal ∷ literals) = Element section index literal ∷ elements section (index + 1) literals

-- a wire for each literal of property j, the first of which stands at this place
abbrev pub property_literals : ℕ → ℕ → List ℕ → List Wire
property_literals j place [] = []
property_literals j place (literal ∷ literals) = PropertyLiteral j place literal ∷ property_literals j (place + 1) literals

-- the inputs and the latches
abbrev pub sources_of : Model → List Wire
sources_of m =
    elements Inputs 0 (map (λ v. 2 * v) m.circuit.inputs) ++ elements Latches 0 (map (λ latch. 2 * latch.var) m.circuit.latches)

-- what the sections behind them show of the property j, and the loop
abbrev pub later_wires_of : Model → ℕ → List Wire
later_wires_of m j =
    elements Outputs 0 m.outputs
    ++ elements Bad 0 m.bad
    ++ elements Constraints 0 m.circuit.constraints
    ++ property_literals j 0 (slice_index_or m.circuit.justice j [])
    ++ elements Fairness 0 m.circuit.fairness
    ++ Loop ∷ []

abbrev pub literal_of : Wire → Option ℕ
literal_of (Element section index literal) = Some literal
literal_of (PropertyLiteral property place literal) = Some literal
literal_of Loop = None

-- the value of a wire, from the values of the variables and from whether the position is in the loop
abbrev pub value_in : List Bool → Bool → Wire → Bool
value_in values looping (Element section index literal) = literal_in values literal
value_in values looping (PropertyLiteral property place literal) = literal_in values literal
value_in values looping Loop = looping
