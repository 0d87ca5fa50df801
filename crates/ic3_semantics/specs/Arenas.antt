-- Where a search for a path may go: the arenas of FAIR (Bradley, Somenzi, Hassan, Zhang, 2011), in which every step
-- keeps to the side of each wall on which it began.
use Rattle.std.specs.Prelude.{◌≡◌, Bool, true, false, List, [], ◌∷◌, filter}
use Rattle.std.specs.List.{list_all}
use Rattle.aig_semantics.specs.Circuits.{Circuit}
use Rattle.aig_semantics.specs.Runs.{IsInitial}
use Rattle.proof_semantics.specs.Clauses.{bool_eq}
use Rattle.fair_semantics.specs.declared.entries.Kind.{Kind}
use Rattle.fair_semantics.specs.declared.entries.Kind.TheVariants.{Reach, Wall}
use Rattle.fair_semantics.specs.Entries.{Entry, Numbered, numbered, set_at}
use Rattle.fair_semantics.specs.Allowing.{all_allow}
use Rattle.ic3_semantics.specs.declared.questions.Start.{Start}
use Rattle.ic3_semantics.specs.declared.questions.Start.TheVariants.{Initial, State}

-- the states in which a search starts
abbrev pub MayStart : Circuit → Start → List Bool → Type 0
MayStart c Initial s = IsInitial c s
MayStart c (State from) s = s ≡ from

-- From the initial states reach entries alone restrict the steps, from a state walls do too.
abbrev pub restricts : Start → Kind → Bool
restricts start Reach = true
restricts Initial Wall = false
restricts (State from) Wall = true

-- the entries of a list that restrict the steps, with their numbers
abbrev pub restricting : Start → List Entry → List Numbered
restricting start view = filter (λ e. restricts start e.entry.kind) (numbered view)

-- these entries allow a step between the two states
abbrev pub allows_step : List Entry → Start → List Bool → List Bool → Bool
allows_step view start s t = all_allow (set_at view) (restricting start view) (s ∷ t ∷ [])

-- The state is in the set of a reach entry; from a state, it is on that state's side of the set of a wall.
abbrev pub keeps_to : Start → Kind → (List Bool → Bool) → List Bool → Bool
keeps_to start Reach set s = set s
keeps_to Initial Wall set s = true
keeps_to (State from) Wall set s = bool_eq (set from) (set s)

-- The arena of a search: the states that do so for each entry of the list.
abbrev pub in_arena : List Entry → Start → List Bool → Bool
in_arena view start s = list_all (λ e. keeps_to start e.entry.kind (set_at view e.number) s) (numbered view)
