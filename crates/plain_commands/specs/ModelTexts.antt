-- Texts of models, in ASCII or in binary, as their first two bytes tell (AIGER 1.9; Biere, Heljanko, Wieringa, 2011).
use Rattle.std.specs.Prelude.{ℕ, Bool, true, false, List, take, codes}
use Rattle.std.specs.Str.{bytes_eq}
use Rattle.aig_semantics.specs.Circuits.{Circuit}
use Rattle.circuit.specs.declared.faults.ModelFault.{ModelFault}
use Rattle.aiger_grammar.specs.Models.{Model}
use Rattle.aiger_grammar.specs.AsciiTexts.{IsAsciiTextOf, HasAsciiFault}
use Rattle.aiger_grammar.specs.BinaryTexts.{IsBinaryTextOf, HasBinaryFault}

-- the text begins as a binary one does
abbrev pub is_binary : List ℕ → Bool
is_binary text = bytes_eq (take 2 text) (codes "ai")

-- the bytes are a text of the model in the one form or the other
abbrev pub IsTextIn : Bool → Model → List ℕ → Type 0
IsTextIn true m text = IsBinaryTextOf m text
IsTextIn false m text = IsAsciiTextOf m text

abbrev pub HasFaultIn : Bool → List ℕ → ModelFault → Type 0
HasFaultIn true text fault = HasBinaryFault text fault
HasFaultIn false text fault = HasAsciiFault text fault

-- the bytes are a text of the model
abbrev pub IsModelText : Model → List ℕ → Type 0
IsModelText m text = IsTextIn (is_binary text) m text

-- the bytes are a text of no model, and this is their first fault
abbrev pub IsBadModel : List ℕ → ModelFault → Type 0
IsBadModel text fault = HasFaultIn (is_binary text) text fault

-- the bytes are the text of a model, and the claim holds of its circuit
abbrev pub OfModel : List ℕ → (Circuit → Type 0) → Type 0
OfModel text Claim = (m : Model) × IsModelText m text × Claim m.circuit
