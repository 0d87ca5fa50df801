-- Which bytes are a text of which model: its sections in their order (AIGER 1.9; Biere, Heljanko, Wieringa, 2011).
use Rattle.std.specs.Prelude.{ℕ, ◌+◌, ◌≤◌, List, [], ◌∷◌, length, map}
use Rattle.std.specs.List.{flat_map}
use Rattle.std.specs.Prelude.{codes}
use Rattle.aiger_grammar.specs.Models.{Model, IsModel}
use Rattle.aiger_grammar.specs.Lines.{LinesOf, EndsLine, InputLine, LatchLine, GateLine, SymbolLine, CommentAtEnd, HeaderLine}

-- the header's numbers M I L O A B C J F: the greatest variable M, and how many elements each list has
abbrev pub header_numbers : Model → List ℕ
header_numbers m =
    m.circuit.max ∷ length m.circuit.inputs ∷ length m.circuit.latches ∷ length m.outputs ∷ length m.circuit.gates
    ∷ length m.bad ∷ length m.circuit.constraints ∷ length m.circuit.justice ∷ length m.circuit.fairness ∷ []

-- the greatest variable leaves room for the inputs, latches and gates
abbrev pub HasRoom : Model → Type 0
HasRoom m = length m.circuit.inputs + length m.circuit.latches + length m.circuit.gates ≤ m.circuit.max

-- An ASCII text, whose header shows this many numbers. Each name with at_ is what the text has from that section on.
pub record IsAsciiText (shown : ℕ) (m : Model) (bytes : List ℕ) : Type 0 where
  pub at_inputs : List ℕ
  pub at_latches : List ℕ
  pub at_outputs : List ℕ
  pub at_bad : List ℕ
  pub at_constraints : List ℕ
  pub at_sizes : List ℕ
  pub at_justice : List ℕ
  pub at_fairness : List ℕ
  pub at_gates : List ℕ
  pub at_symbols : List ℕ
  pub at_comment : List ℕ
  pub model : IsModel m
  pub room : HasRoom m
  pub header : HeaderLine (codes "aag") (header_numbers m) shown bytes at_inputs
  pub inputs : LinesOf InputLine m.circuit.inputs at_inputs at_latches
  pub latches : LinesOf LatchLine m.circuit.latches at_latches at_outputs
  pub outputs : LinesOf EndsLine m.outputs at_outputs at_bad
  pub bad : LinesOf EndsLine m.bad at_bad at_constraints
  pub constraints : LinesOf EndsLine m.circuit.constraints at_constraints at_sizes
  pub sizes : LinesOf EndsLine (map length m.circuit.justice) at_sizes at_justice
  pub justice : LinesOf EndsLine (flat_map (λ property. property) m.circuit.justice) at_justice at_fairness
  pub fairness : LinesOf EndsLine m.circuit.fairness at_fairness at_gates
  pub gates : LinesOf GateLine m.circuit.gates at_gates at_symbols
  pub symbols : LinesOf SymbolLine m.names.symbols at_symbols at_comment
  pub comment : CommentAtEnd m.names.comment at_comment
