-- Scaffolding of inner functions. The search of a worker from the initial states.
use Rattle.std.specs.Prelude.{◌≡◌, ◌≤◌, List, length}
use Rattle.aig_semantics.specs.Circuits.{Circuit}
use Rattle.entry.specs.CheckedEntries.{GoesOnFrom}
use Rattle.fair_semantics.specs.Entries.{Entry}
use Rattle.ic3_semantics.specs.declared.questions.Start.{Start}
use Rattle.ic3_semantics.specs.declared.questions.Start.TheVariants.{Initial}
use Rattle.ic3_semantics.specs.Searching.{Question}
use Rattle.ic3.specs.Searches.{Searching, steps_left}
use Rattle.fair_round.specs.declared.scope.Scope.{Scope}
use Rattle.fair_round.specs.Spending.{path_steps}
use Rattle.fair_round.specs.Scopes.{entries_of}

-- the question from a start, over the entries of a scope
abbrev pub question_of : Scope → Start → Question
question_of s start = record { circuit = s.circuit.now; view = entries_of s; start = start }

-- A search of the circuit from the initial states, which was asked under no more entries, and has no more steps left than
-- one search for a path takes.
pub record IsFit (c : Circuit) (view : List Entry) (search : Searching) : Type 0 where
  pub circuit : search.circuit ≡ c
  pub start : search.start ≡ Initial
  pub on : GoesOnFrom search.view view
  pub left : steps_left search ≤ path_steps (length c.latches)
