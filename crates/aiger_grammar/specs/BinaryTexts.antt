-- Which bytes are a binary text of which model (AIGER 1.9; Biere, Heljanko, Wieringa, 2011), and which fault they have
-- where they are one of none. The faults, their order and their places are this program's.
use Rattle.std.specs.Prelude.{◌≡◌, ◌⊎◌, ℕ, ◌+◌, ◌-◌, ◌*◌, ◌≤◌, ◌<◌, List, length, map, codes, Result, Ok, ◌==◌}
use Rattle.std.specs.List.{flat_map, range_with_len}
use Rattle.aig_semantics.specs.declared.limits.TheConstants.{MAX_MODEL_BYTES}
use Rattle.aig_semantics.specs.declared.parts.Latch.{Latch}
use Rattle.aig_semantics.specs.declared.parts.Gate.{Gate}
use Rattle.circuit.specs.declared.parts.Parts.{Parts}
use Rattle.circuit.specs.declared.faults.ModelFault.{ModelFault}
use Rattle.aiger_grammar.specs.declared.names.Names.{Names}
use Rattle.aiger_grammar.specs.declared.sections.Heading.{Heading}
use Rattle.aiger_grammar.specs.Models.{Model, IsModel}
use Rattle.aiger_grammar.specs.Lines.{LinesOf, NumberedLines, EndsLine, LatchEnd, SymbolLine, CommentAtEnd, HeaderLine}
use Rattle.aiger_grammar.specs.Texts.{header_numbers}
use Rattle.aiger_grammar.specs.Reading.{Reader, ◌>>=◌, many}
use Rattle.aiger_grammar.specs.Headers.{heading_at, within_limit, defined_count}
use Rattle.aiger_grammar.specs.Sections.{next_at, properties_at, parts_of}
use Rattle.aiger_grammar.specs.Deltas.{IsDelta, difference_at}
use Rattle.aiger_grammar.specs.BothForms.{text_at, IsFirstFault, SameFault}

-- a latch with this variable: its next literal and its reset
abbrev pub NumberedLatch : ℕ → Latch → List ℕ → List ℕ → Type 0
NumberedLatch v latch bytes rest = (latch.var ≡ v) × LatchEnd latch bytes rest

-- A gate with variable v: how far its first right side is below its literal, and the second below the first.
pub record NumberedGate (v : ℕ) (gate : Gate) (bytes rest : List ℕ) : Type 0 where
  pub at_second : List ℕ
  pub variable : gate.var ≡ v
  pub below : gate.rhs0 < 2 * v
  pub ordered : gate.rhs1 ≤ gate.rhs0
  pub first : IsDelta (2 * v - gate.rhs0) bytes at_second
  pub second : IsDelta (gate.rhs0 - gate.rhs1) at_second rest

-- The variables are numbered: inputs first, then latches, then gates, and there are no others.
pub record IsNumbered (m : Model) : Type 0 where
  pub inputs : m.circuit.inputs ≡ range_with_len 1 (length m.circuit.inputs)
  pub all : length m.circuit.inputs + length m.circuit.latches + length m.circuit.gates ≡ m.circuit.max

-- A binary text, whose header shows this many numbers. Each name with at_ is what the text has from that section on.
pub record IsBinaryText (shown : ℕ) (m : Model) (bytes : List ℕ) : Type 0 where
  pub at_latches : List ℕ
  pub at_outputs : List ℕ
  pub at_bad : List ℕ
  pub at_constraints : List ℕ
  pub at_sizes : List ℕ
  pub at_justice : List ℕ
  pub at_fairness : List ℕ
  pub at_gates : List ℕ
  pub at_symbols : List ℕ
  pub at_comment : List ℕ
  pub model : IsModel m
  pub numbered : IsNumbered m
  pub header : HeaderLine (codes "aig") (header_numbers m) shown bytes at_latches
  pub latches :
      NumberedLines (λ k. NumberedLatch (length m.circuit.inputs + 1 + k)) 0 m.circuit.latches at_latches at_outputs
  pub outputs : LinesOf EndsLine m.outputs at_outputs at_bad
  pub bad : LinesOf EndsLine m.bad at_bad at_constraints
  pub constraints : LinesOf EndsLine m.circuit.constraints at_constraints at_sizes
  pub sizes : LinesOf EndsLine (map length m.circuit.justice) at_sizes at_justice
  pub justice : LinesOf EndsLine (flat_map (λ property. property) m.circuit.justice) at_justice at_fairness
  pub fairness : LinesOf EndsLine m.circuit.fairness at_fairness at_gates
  pub gates :
      NumberedLines (λ k. NumberedGate (length m.circuit.inputs + length m.circuit.latches + 1 + k)) 0
      m.circuit.gates at_gates at_symbols
  pub symbols : LinesOf SymbolLine m.names.symbols at_symbols at_comment
  pub comment : CommentAtEnd m.names.comment at_comment

-- The bytes are a binary text of the model, whatever zeros its header shows, and are not too long for this program.
pub record IsBinaryTextOf (m : Model) (bytes : List ℕ) : Type 0 where
  pub short : length bytes ≤ MAX_MODEL_BYTES
  pub shown : ℕ
  pub text : IsBinaryText shown m bytes

-- the bytes are a binary text of the model, whatever zeros its header shows and however long they are
abbrev pub HasBinaryForm : Model → List ℕ → Type 0
HasBinaryForm m bytes = (shown : ℕ) × IsBinaryText shown m bytes

-- ---- the same, read from the left

-- A binary header: the greatest variable is the number of inputs, latches and gates together, and is within its limit.
unfoldable pub binary_heading_at : ℕ → Reader Heading
binary_heading_at total bytes =
    heading_at (codes "aig") total bytes >>= λ h body.
    within_limit (defined_count h == h.max) h body

-- the right sides of the gate with variable v, as differences
unfoldable pub numbered_gate_at : ℕ → ℕ → Reader Gate
numbered_gate_at v total bytes =
    difference_at 1 (2 * v) total bytes >>= λ first at_second.
    difference_at 0 (2 * v - first) total at_second >>= λ second rest.
    Ok (record { var = v; rhs0 = 2 * v - first; rhs1 = 2 * v - first - second }, rest)

-- the literal of the k-th latch from 0, and the variable of the k-th gate
abbrev pub latch_literal : Heading → ℕ → ℕ
latch_literal h k = 2 * (h.inputs + 1 + k)

abbrev pub gate_variable : Heading → ℕ → ℕ
gate_variable h k = h.inputs + h.latches + 1 + k

-- the sections of a binary text, up to the gates
unfoldable pub binary_sections_at : Heading → ℕ → Reader Parts
binary_sections_at h total bytes =
    many (λ k. next_at (latch_literal h k) h.max total) 0 h.latches bytes >>= λ latches at_outputs.
    properties_at h total at_outputs >>= λ properties at_gates.
    many (λ k. numbered_gate_at (gate_variable h k) total) 0 h.gates at_gates >>= λ gates rest.
    Ok (parts_of h.max (range_with_len 1 h.inputs) latches properties gates, rest)

-- the text read from the left to its end
unfoldable pub binary_at : List ℕ → Result (Parts × Names) ModelFault
binary_at bytes = text_at binary_heading_at binary_sections_at bytes

abbrev pub HasBinaryFault : List ℕ → ModelFault → Type 0
HasBinaryFault bytes fault = IsFirstFault (binary_at bytes) fault

-- ---- laws

-- a text stands for one model at most
abbrev pub BinaryHasOneModel : Type 0
BinaryHasOneModel = (m n : Model) (bytes : List ℕ) → IsBinaryTextOf m bytes → IsBinaryTextOf n bytes → m ≡ n

-- what stands for a model has no fault
abbrev pub BinaryHasNoFault : Type 0
BinaryHasNoFault =
    (m : Model) (bytes : List ℕ) (fault : ModelFault) → IsBinaryTextOf m bytes → HasBinaryFault bytes fault → ⊥

-- any bytes stand for a model, or have a fault
abbrev pub IsBinaryOrFaulty : Type 0
IsBinaryOrFaulty =
    (bytes : List ℕ) → ((m : Model) × IsBinaryTextOf m bytes) ⊎ ((fault : ModelFault) × HasBinaryFault bytes fault)

-- a text has one fault at most
abbrev pub BinaryHasOneFault : Type 0
BinaryHasOneFault =
    (bytes : List ℕ) (first second : ModelFault) → HasBinaryFault bytes first → HasBinaryFault bytes second
    → SameFault first second
