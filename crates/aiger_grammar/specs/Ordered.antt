-- Which models have a binary text (AIGER 1.9; Biere, Heljanko, Wieringa, 2011).
use Rattle.std.specs.Prelude.{◌≡◌, ◌↔◌, ℕ, ◌*◌, ◌≤◌, ◌<◌, List}
use Rattle.std.specs.List.{All, range_with_len}
use Rattle.aig_semantics.specs.declared.parts.Gate.{Gate}
use Rattle.aig_semantics.specs.Circuits.{defined}
use Rattle.aiger_grammar.specs.Models.{Model, IsModel}
use Rattle.aiger_grammar.specs.Spelling.{binary_text}
use Rattle.aiger_grammar.specs.BinaryTexts.{HasBinaryForm}

-- the gate's literal is above its first right side, which is not below the second
pub record IsDescending (gate : Gate) : Type 0 where
  pub first : gate.rhs0 < 2 * gate.var
  pub second : gate.rhs1 ≤ gate.rhs0

-- The variables of the inputs, then of the latches, then of the gates are those from 1 to the greatest in their order, and
-- each gate descends.
pub record IsOrdered (m : Model) : Type 0 where
  pub numbered : defined m.circuit ≡ range_with_len 1 m.circuit.max
  pub descending : All IsDescending m.circuit.gates

-- the model has a binary text, however long it is
abbrev pub HasBinaryText : Model → Type 0
HasBinaryText m = (bytes : List ℕ) × HasBinaryForm m bytes

-- ---- laws

-- a model has a binary text exactly where it is ordered
abbrev pub HasBinaryTextWhereOrdered : Type 0
HasBinaryTextWhereOrdered = (m : Model) → IsModel m → HasBinaryText m ↔ IsOrdered m

-- the binary text of an ordered model stands for it, also where it is too long to be read
abbrev pub WritesBinary : Type 0
WritesBinary = (m : Model) → IsModel m → IsOrdered m → HasBinaryForm m (binary_text m)
