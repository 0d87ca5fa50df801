-- Scaffolding of inner functions. The states of a skeleton.
use Rattle.std.specs.Prelude.{◌≡◌, Bool, true, List}
use Rattle.std.specs.List.{list_all}
use Rattle.fair_semantics.specs.declared.skeletons.Situation.{Situation}
use Rattle.fair_semantics.specs.Skeletons.{states_of}

-- The state is one of those of the situations, or of their successors: what is true of all of them is true of it.
abbrev pub IsStateOf : List Situation → List Bool → Type 0
IsStateOf situations state = (p : List Bool → Bool) → list_all p (states_of situations) ≡ true → p state ≡ true
