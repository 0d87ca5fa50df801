-- Which model an ASCII text stands for (AIGER 1.9; Biere, Heljanko, Wieringa, 2011), and which fault it has where it
-- stands for none. The faults, their order and their places are this program's.
use Rattle.std.specs.Prelude.{◌≡◌, ◌⊎◌, ℕ, ◌≤◌, List, length, Result}
use Rattle.aig_semantics.specs.declared.limits.TheConstants.{MAX_MODEL_BYTES}
use Rattle.circuit.specs.declared.parts.Parts.{Parts}
use Rattle.circuit.specs.declared.faults.ModelFault.{ModelFault}
use Rattle.aiger_grammar.specs.declared.names.Names.{Names}
use Rattle.aiger_grammar.specs.Models.{Model}
use Rattle.aiger_grammar.specs.Texts.{IsAsciiText}
use Rattle.aiger_grammar.specs.Headers.{ascii_heading_at}
use Rattle.aiger_grammar.specs.Sections.{ascii_sections_at}
use Rattle.aiger_grammar.specs.BothForms.{text_at, IsFirstFault, SameFault}

-- The bytes are an ASCII text of the model, whatever zeros its header shows, and are not too long for this program.
pub record IsAsciiTextOf (m : Model) (bytes : List ℕ) : Type 0 where
  pub short : length bytes ≤ MAX_MODEL_BYTES
  pub shown : ℕ
  pub text : IsAsciiText shown m bytes

-- the text read from the left to its end
unfoldable pub ascii_at : List ℕ → Result (Parts × Names) ModelFault
ascii_at bytes = text_at ascii_heading_at ascii_sections_at bytes

abbrev pub HasAsciiFault : List ℕ → ModelFault → Type 0
HasAsciiFault bytes fault = IsFirstFault (ascii_at bytes) fault

-- ---- laws

-- a text stands for one model at most
abbrev pub HasOneModel : Type 0
HasOneModel = (m n : Model) (bytes : List ℕ) → IsAsciiTextOf m bytes → IsAsciiTextOf n bytes → m ≡ n

-- what stands for a model has no fault
abbrev pub TextHasNoFault : Type 0
TextHasNoFault =
    (m : Model) (bytes : List ℕ) (fault : ModelFault) → IsAsciiTextOf m bytes → HasAsciiFault bytes fault → ⊥

-- any bytes stand for a model, or have a fault
abbrev pub IsTextOrFaulty : Type 0
IsTextOrFaulty =
    (bytes : List ℕ) → ((m : Model) × IsAsciiTextOf m bytes) ⊎ ((fault : ModelFault) × HasAsciiFault bytes fault)

-- a text has one fault at most
abbrev pub HasOneFault : Type 0
HasOneFault =
    (bytes : List ℕ) (first second : ModelFault) → HasAsciiFault bytes first → HasAsciiFault bytes second
    → SameFault first second
