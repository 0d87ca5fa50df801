-- What entries allow: one definition over lists of states, for steps and for skeletons.
use Rattle.std.specs.Prelude.{ℕ, Bool, true, false, ◌||◌, List}
use Rattle.std.specs.List.{list_all}
use Rattle.proof_semantics.specs.Clauses.{bool_eq}
use Rattle.fair_semantics.specs.declared.entries.Kind.{Kind}
use Rattle.fair_semantics.specs.declared.entries.Kind.TheVariants.{Reach, Wall}
use Rattle.fair_semantics.specs.Entries.{Numbered, sets_of}

-- all these states are on this side of the set: in it, or outside it
abbrev pub all_on : Bool → (List Bool → Bool) → List (List Bool) → Bool
all_on side set places = list_all (λ s. bool_eq side (set s)) places

-- A reach entry allows states that are all in its set; a wall states that are all on one side of it.
abbrev pub allows_by : Kind → (List Bool → Bool) → List (List Bool) → Bool
allows_by Reach set places = all_on true set places
allows_by Wall set places = all_on true set places || all_on false set places

-- with these sets, each of the entries allows the states
abbrev pub all_allow : (ℕ → List Bool → Bool) → List Numbered → List (List Bool) → Bool
all_allow sets entries places = list_all (λ e. allows_by e.entry.kind (sets e.number) places) entries

-- The entries allow the states, with the sets that they have over each other.
abbrev pub allow : List Numbered → List (List Bool) → Bool
allow entries places = all_allow (sets_of entries) entries places
