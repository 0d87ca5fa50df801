-- Scaffolding of inner functions. What a round is over.
use Rattle.std.specs.Prelude.{◌≡◌, ◌<◌, ◌+◌, ◌^◌, max, List, length}
use Rattle.std.specs.List.{All}
use Rattle.aig_semantics.specs.Circuits.{fair_literals}
use Rattle.edge.specs.Units.{Spendings}
use Rattle.proof_semantics.specs.declared.literals.Lit.{Lit}
use Rattle.entry.specs.CheckedEntries.{viewed, GoesOnFrom}
use Rattle.entry.specs.Laws.{IsGoodList}
use Rattle.fair_semantics.specs.declared.skeletons.Skeleton.{Skeleton}
use Rattle.fair_semantics.specs.Entries.{Entry}
use Rattle.skeleton.specs.Finding.{Asking, IsAllowed, BeginsNone}
use Rattle.fair_round.specs.declared.scope.Scope.{Scope}
use Rattle.fair_round.specs.Spending.{Asks}

-- the entries of the scope
abbrev pub entries_of : Scope → List Entry
entries_of s = viewed s.view.now

-- a query that has seen them all
abbrev pub asking_of_scope : Scope → Asking
asking_of_scope s = record { circuit = s.circuit.now; property = s.property; seen = entries_of s }

-- the entries are a good list, and not too many
pub record IsScope (s : Scope) : Type 0 where
  pub good : IsGoodList s.circuit.now (entries_of s)
  pub few : length s.view.now < 2 ^ 32

-- a query of the circuit and the property that has seen no other entries
pub record IsQueryOf (s : Scope) (query : Asking) : Type 0 where
  pub circuit : query.circuit ≡ s.circuit.now
  pub property : query.property ≡ s.property
  pub on : GoesOnFrom query.seen (entries_of s)

-- the entries allow the skeleton
abbrev pub IsAllowedIn : Scope → Skeleton → Type 0
IsAllowedIn s skeleton = IsAllowed s.circuit.now s.property (entries_of s) skeleton

-- in these cubes no skeleton begins that the entries allow
abbrev pub AreAvoided : Scope → List (List Lit) → Type 0
AreAvoided s cubes = All (BeginsNone s.circuit.now s.property (entries_of s)) cubes

-- at most the steps of a search for a path for each situation of a skeleton were counted
abbrev pub AsksLoop : Scope → Spendings → Spendings → Type 0
AsksLoop s old new = Asks (length s.circuit.now.latches) (max 1 (length (fair_literals s.circuit.now s.property))) old new

-- and those of one more
abbrev pub AsksRound : Scope → Spendings → Spendings → Type 0
AsksRound s old new = Asks (length s.circuit.now.latches) (max 1 (length (fair_literals s.circuit.now s.property)) + 1) old new
