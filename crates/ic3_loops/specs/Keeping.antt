-- What blocking keeps of a search (scaffolding), from one moment to a later one.
use Rattle.std.specs.Prelude.{◌≡◌, ◌+◌, ◌≤◌, List, length}
use Rattle.proof_semantics.specs.declared.literals.Lit.{Lit}
use Rattle.edge.specs.Units.{Spendings}
use Rattle.ic3_frames.specs.Room.{room}
use Rattle.ic3_semantics.specs.Searching.{CountsUpTo}
use Rattle.ic3_semantics.specs.Stepping.{Stepping}
use Rattle.ic3_loops.specs.Sound.{IsSearch, KeepsQuestion}
use Rattle.ic3_loops.specs.Propagating.{Narrows}

-- The search goes on over as many frames; these exclude what they excluded, and the steps that were counted left less room.
pub record Keeps (starts : List Lit) (old new : Stepping) (before after : List (List (List Lit))) (a b : Spendings) : Type 0 where
  pub search : IsSearch starts new after
  pub number : length after ≡ length before
  pub narrows : Narrows before after
  pub paid : b.steps + room (length old.question.circuit.latches) after ≤ a.steps + room (length old.question.circuit.latches) before

-- Whatever it ends with, the question stays, and no more steps were counted than there was room for.
pub record Bounds (old new : Stepping) (before : List (List (List Lit))) (a b : Spendings) : Type 0 where
  pub question : KeepsQuestion old new
  pub counted : CountsUpTo (room (length old.question.circuit.latches) before) a b
