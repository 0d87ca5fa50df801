-- The one text in which a model is written: zeros at the end of the header's last four numbers are left out, a reset of
-- 0 is left out, and everything stands in the model's order (AIGER 1.9; Biere, Heljanko, Wieringa, 2011).
use Rattle.std.specs.Prelude.{◌≡◌, ◌↔◌, ℕ, ◌-◌, ◌*◌, ◌≤◌, ◌==◌, List, [], ◌∷◌, ◌++◌, length, map, Option, Some, None, IfSome, decimal, codes, false, if◌then◌else◌}
use Rattle.std.specs.List.{All, flat_map}
use Rattle.aig_semantics.specs.declared.limits.TheConstants.{MAX_NUMBER}
use Rattle.aig_semantics.specs.declared.parts.Latch.{Latch}
use Rattle.aig_semantics.specs.declared.parts.Gate.{Gate}
use Rattle.aig_semantics.specs.declared.parts.Reset.{Reset}
use Rattle.aig_semantics.specs.declared.parts.Reset.TheVariants.{Zero, One, Free}
use Rattle.text_grammar.specs.Numerals.{begins_with_digit}
use Rattle.text_grammar.specs.Pieces.{Lacks}
use Rattle.aiger_grammar.specs.declared.names.Symbol.{Symbol}
use Rattle.aiger_grammar.specs.declared.names.Names.{Names}
use Rattle.aiger_grammar.specs.declared.names.Counts.{Counts}
use Rattle.aiger_grammar.specs.declared.sections.Heading.{Heading}
use Rattle.aiger_grammar.specs.Models.{Model, IsModel, heading_of}
use Rattle.aiger_grammar.specs.Names.{Fits, AreNames}
use Rattle.aiger_grammar.specs.Texts.{IsAsciiText}
use Rattle.aiger_grammar.specs.Deltas.{delta_text}

-- ---- the header

-- a number, where it or a later one is not 0
abbrev pub before : ℕ → List ℕ → List ℕ
before n [] = if n == 0 then [] else n ∷ []
before n (m ∷ ms) = n ∷ m ∷ ms

-- the numbers without the zeros at their end
abbrev pub without_zeros : List ℕ → List ℕ
without_zeros [] = []
without_zeros (n ∷ ns) = before n (without_zeros ns)

-- each number behind a space
abbrev pub spaced : List ℕ → List ℕ
spaced numbers = flat_map (λ n. 32 ∷ decimal n) numbers

-- the numbers that a header shows, M I L O A and then as many of B C J F as are wanted
abbrev pub shown_numbers : Heading → List ℕ
shown_numbers h =
    h.max ∷ h.inputs ∷ h.latches ∷ h.outputs ∷ h.gates ∷ without_zeros (h.bad ∷ h.constraints ∷ h.justice ∷ h.fairness ∷ [])

abbrev pub header_text : List ℕ → Heading → List ℕ
header_text word h = word ++ spaced (shown_numbers h) ++ 10 ∷ []

-- ---- lines

abbrev pub number_line : ℕ → List ℕ
number_line n = decimal n ++ 10 ∷ []

abbrev pub number_lines : List ℕ → List ℕ
number_lines numbers = flat_map number_line numbers

-- an input's literal
abbrev pub input_line : ℕ → List ℕ
input_line v = number_line (2 * v)

-- what stands behind a latch's next literal
abbrev pub reset_text : ℕ → Reset → List ℕ
reset_text v Zero = 10 ∷ []
reset_text v One = 32 ∷ number_line 1
reset_text v Free = 32 ∷ number_line (2 * v)

-- a latch's next literal, and its reset
abbrev pub next_line : Latch → List ℕ
next_line latch = decimal latch.next ++ reset_text latch.var latch.reset

abbrev pub latch_line : Latch → List ℕ
latch_line latch = decimal (2 * latch.var) ++ 32 ∷ next_line latch

abbrev pub gate_line : Gate → List ℕ
gate_line gate = decimal (2 * gate.var) ++ 32 ∷ (decimal gate.rhs0 ++ 32 ∷ number_line gate.rhs1)

-- the sizes of the properties, and then their literals
abbrev pub justice_text : List (List ℕ) → List ℕ
justice_text justice = number_lines (map length justice) ++ number_lines (flat_map (λ property. property) justice)

-- outputs, bad state literals, constraints, properties and fairness
abbrev pub properties_text : Model → List ℕ
properties_text m =
    number_lines m.outputs
    ++ number_lines m.bad
    ++ number_lines m.circuit.constraints
    ++ justice_text m.circuit.justice
    ++ number_lines m.circuit.fairness

-- ---- names

abbrev pub symbol_line : Symbol → List ℕ
symbol_line symbol = symbol.letter ∷ (decimal symbol.index ++ 32 ∷ (symbol.name ++ 10 ∷ []))

abbrev pub comment_text : Option (List ℕ) → List ℕ
comment_text None = []
comment_text (Some text) = 99 ∷ text

abbrev pub names_text : Names → List ℕ
names_text names = flat_map symbol_line names.symbols ++ comment_text names.comment

-- names of elements that are there, in the form that can be read again
pub record AreWritable (counts : Counts) (names : Names) : Type 0 where
  pub fitting : All (Fits counts) names.symbols
  pub numbers : All (λ symbol. symbol.index ≤ MAX_NUMBER) names.symbols
  pub one_line : All (λ symbol. Lacks symbol.name 10) names.symbols
  pub no_digit : IfSome names.comment (λ text. begins_with_digit text ≡ false)

-- ---- a whole ASCII text

abbrev pub ascii_text : Model → List ℕ
ascii_text m =
    header_text (codes "aag") (heading_of m)
    ++ flat_map input_line m.circuit.inputs
    ++ flat_map latch_line m.circuit.latches
    ++ properties_text m
    ++ flat_map gate_line m.circuit.gates
    ++ names_text m.names

-- ---- a whole binary text

-- the differences of a gate's literal and its right sides
abbrev pub gate_deltas : Gate → List ℕ
gate_deltas gate = delta_text (2 * gate.var - gate.rhs0) ++ delta_text (gate.rhs0 - gate.rhs1)

-- the binary text of a model that is ordered
abbrev pub binary_text : Model → List ℕ
binary_text m =
    header_text (codes "aig") (heading_of m)
    ++ flat_map next_line m.circuit.latches
    ++ properties_text m
    ++ flat_map gate_deltas m.circuit.gates
    ++ names_text m.names

-- the bytes are an ASCII text of the model, whatever zeros its header shows and however long they are
abbrev pub HasAsciiForm : Model → List ℕ → Type 0
HasAsciiForm m bytes = (shown : ℕ) × IsAsciiText shown m bytes

-- ---- laws

-- the text of names stands for them exactly where they can be written
abbrev pub WritesNames : Type 0
WritesNames = (counts : Counts) (names : Names) → AreNames counts names (names_text names) ↔ AreWritable counts names

-- the text of a model stands for it, also where it is too long to be read
abbrev pub WritesAscii : Type 0
WritesAscii = (m : Model) → IsModel m → HasAsciiForm m (ascii_text m)
