-- The sections of a model's text behind its header (AIGER 1.9; Biere, Heljanko, Wieringa, 2011), read from the left.
-- The faults, their order and their places are this program's.
use Rattle.std.specs.Prelude.{ℕ, List, [], ◌∷◌, Ok, Err, ◌==◌, if◌then◌else◌}
use Rattle.aig_semantics.specs.declared.parts.Latch.{Latch}
use Rattle.aig_semantics.specs.declared.parts.Gate.{Gate}
use Rattle.aig_semantics.specs.declared.parts.Reset.{Reset}
use Rattle.aig_semantics.specs.declared.parts.Reset.TheVariants.{Zero, One, Free}
use Rattle.aig_semantics.specs.Literals.{variable_of}
use Rattle.circuit.specs.declared.parts.Parts.{Parts}
use Rattle.aiger_grammar.specs.declared.sections.Heading.{Heading}
use Rattle.aiger_grammar.specs.declared.sections.Properties.{Properties}
use Rattle.aiger_grammar.specs.declared.sections.Test.TheVariants as tests
use Rattle.aiger_grammar.specs.Reading.{Reader, ◌>>=◌, lines_at, unfit, value_at, field_at}

-- an input's line
unfoldable pub input_at : ℕ → ℕ → Reader ℕ
input_at max total bytes =
    field_at (tests.Variable max) 10 total bytes >>= λ literal rest.
    Ok (variable_of literal, rest)

-- the reset that a number stands for: 0, 1, or the latch's own literal
abbrev pub reset_of : ℕ → Reset
reset_of n = if n == 0 then Zero else if n == 1 then One else Free

-- the end of a latch's line, by the latch's literal: a line feed, or a space and the reset
unfoldable pub reset_at : ℕ → ℕ → Reader Reset
reset_at literal total [] = Err (unfit total [])
reset_at literal total (b ∷ rest) =
    if b == 10 then Ok (Zero, rest)
    else if b == 32 then (field_at (tests.Reset literal) 10 total rest >>= λ n after. Ok (reset_of n, after))
    else Err (unfit total (b ∷ rest))

-- the next literal of the latch with this literal, and its reset
unfoldable pub next_at : ℕ → ℕ → ℕ → Reader Latch
next_at literal max total bytes =
    value_at (tests.Literal max) total bytes >>= λ next behind.
    reset_at literal total behind >>= λ reset rest.
    Ok (record { var = variable_of literal; next = next; reset = reset }, rest)

-- a latch's line
unfoldable pub latch_at : ℕ → ℕ → Reader Latch
latch_at max total bytes =
    field_at (tests.Variable max) 32 total bytes >>= λ literal after.
    next_at literal max total after

-- the line of a literal
unfoldable pub literal_at : ℕ → ℕ → Reader ℕ
literal_at max total bytes = field_at (tests.Literal max) 10 total bytes

-- the line of a property's size, where there are so many fairness literals
unfoldable pub size_at : ℕ → ℕ → Reader ℕ
size_at fairness total bytes = field_at (tests.Size fairness) 10 total bytes

-- a gate's line
unfoldable pub gate_at : ℕ → ℕ → Reader Gate
gate_at max total bytes =
    field_at (tests.Variable max) 32 total bytes >>= λ literal at_first.
    field_at (tests.Literal max) 32 total at_first >>= λ first at_second.
    field_at (tests.Literal max) 10 total at_second >>= λ second rest.
    Ok (record { var = variable_of literal; rhs0 = first; rhs1 = second }, rest)

-- count lines, each of a literal
abbrev pub literals_at : ℕ → ℕ → ℕ → Reader (List ℕ)
literals_at max total count bytes = lines_at (literal_at max total) count bytes

-- the sizes of all properties
abbrev pub sizes_at : Heading → ℕ → Reader (List ℕ)
sizes_at h total bytes = lines_at (size_at h.fairness total) h.justice bytes

-- the literals of properties of these sizes
unfoldable pub justice_at : ℕ → ℕ → List ℕ → Reader (List (List ℕ))
justice_at max total [] bytes = Ok ([], bytes)
justice_at max total (size ∷ sizes) bytes =
    literals_at max total size bytes >>= λ property after.
    justice_at max total sizes after >>= λ justice rest.
    Ok (property ∷ justice, rest)

-- outputs, bad state literals, constraints, sizes and literals of the properties, fairness
unfoldable pub properties_at : Heading → ℕ → Reader Properties
properties_at h total bytes =
    literals_at h.max total h.outputs bytes >>= λ outputs at_bad.
    literals_at h.max total h.bad at_bad >>= λ bad at_constraints.
    literals_at h.max total h.constraints at_constraints >>= λ constraints at_sizes.
    sizes_at h total at_sizes >>= λ sizes at_justice.
    justice_at h.max total sizes at_justice >>= λ justice at_fairness.
    literals_at h.max total h.fairness at_fairness >>= λ fairness rest.
    Ok (record { outputs = outputs; bad = bad; constraints = constraints; justice = justice; fairness = fairness }, rest)

-- all sections that define and use variables
abbrev pub parts_of : ℕ → List ℕ → List Latch → Properties → List Gate → Parts
parts_of max inputs latches properties gates = record {
  max = max;
  inputs = inputs;
  latches = latches;
  gates = gates;
  outputs = properties.outputs;
  bad = properties.bad;
  constraints = properties.constraints;
  justice = properties.justice;
  fairness = properties.fairness;
}

-- the sections of an ASCII text, up to the gates
unfoldable pub ascii_sections_at : Heading → ℕ → Reader Parts
ascii_sections_at h total bytes =
    lines_at (input_at h.max total) h.inputs bytes >>= λ inputs at_latches.
    lines_at (latch_at h.max total) h.latches at_latches >>= λ latches at_outputs.
    properties_at h total at_outputs >>= λ properties at_gates.
    lines_at (gate_at h.max total) h.gates at_gates >>= λ gates rest.
    Ok (parts_of h.max inputs latches properties gates, rest)
