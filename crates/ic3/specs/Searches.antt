-- What contracts see of a search that is asked again and again from one start, and keeps its frames from one question to
-- the next (IC3: Bradley, 2011).
use Rattle.std.specs.Prelude.{◌≡◌, ℕ, List, [], ◌∷◌, length}
use Rattle.aig_semantics.specs.Circuits.{Circuit}
use Rattle.proof_semantics.specs.declared.literals.Lit.{Lit}
use Rattle.fair_semantics.specs.Entries.{Entry}
use Rattle.ic3_frames.specs.Room.{room}
use Rattle.fair_semantics.specs.declared.entries.Use.{Use}
use Rattle.ic3_semantics.specs.declared.questions.Start.{Start}
use Rattle.ic3_semantics.specs.declared.questions.Reached.{Reached}
use Rattle.ic3_semantics.specs.declared.questions.Reached.TheVariants.{Closed}

-- A circuit and a start; the entries of the last question; and the lemmas of the frames, level by level: none before the
-- first question, and none after a question that ended with an error.
pub record Searching : Type 0 where
  pub circuit : Circuit
  pub start : Start
  pub view : List Entry
  pub levels : List (List (List Lit))

-- how many steps its questions may still take, all together, while none of them ends with an error
abbrev pub steps_left : Searching → ℕ
steps_left s = room (length s.circuit.latches) s.levels

-- a closed set of one clause, which has one literal
abbrev pub IsOfOneLiteral : Reached → Type 0
IsOfOneLiteral reached = (literal : Lit) × ((uses : List Use) × (reached ≡ Closed ((literal ∷ []) ∷ []) uses))
