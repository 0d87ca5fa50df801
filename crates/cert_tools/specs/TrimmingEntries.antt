-- Scaffolding of inner functions: the nodes of entries, which of them are kept, and what becomes of one.
use Rattle.std.specs.Prelude.{◌≡◌, ◌<◌, ◌+◌, ℕ, Bool, true, false, List, [], ◌∷◌, ◌++◌, map, Option, Some, None, slice_get, unwrap_or}
use Rattle.std.specs.List.{filter, list_any}
use Rattle.aig_semantics.specs.Circuits.{Circuit}
use Rattle.fair_semantics.specs.declared.entries.Kind.{Kind}
use Rattle.fair_semantics.specs.declared.entries.Kind.TheVariants.{Reach, Wall}
use Rattle.fair_semantics.specs.declared.entries.Use.{Use}
use Rattle.fair_semantics.specs.Entries.{Entry}
use Rattle.certificate_texts.specs.declared.certificates.Written.{Written}
use Rattle.certificate.specs.Certificates.{AreProvedBehind}
use Rattle.cert_tools.specs.declared.reaching.Node.{Node}
use Rattle.cert_tools.specs.declared.reaching.Numbers.{Numbers}
use Rattle.cert_tools.specs.Reaching.{is_in}
use Rattle.cert_tools.specs.Trimmed.{Numbered, numbered_from, place_among}

abbrev pub numbers_of : List Use → List ℕ
numbers_of uses = map (λ u. u.entry) uses

-- an entry's number, which leads to those that it uses
abbrev pub entry_node : ℕ → Written → Node
entry_node n e = record { number = n; further = numbers_of e.uses }

abbrev pub entry_nodes : ℕ → List Written → List Node
entry_nodes n [] = []
entry_nodes n (e ∷ entries) = entry_node n e ∷ entry_nodes (n + 1) entries

-- the entries whose numbers are in the set
abbrev pub needed_entries : Numbers → List Written → List Numbered
needed_entries numbers entries = filter (λ e. is_in numbers e.0) (numbered_from 0 entries)

-- the number that a list has at a place, and 0 behind it
abbrev pub place_in : List ℕ → ℕ → ℕ
place_in places n = unwrap_or (slice_get places n) 0

-- for each entry, of so many, its place among those that are kept
abbrev pub ArePlaces : List Numbered → ℕ → List ℕ → Type 0
ArePlaces kept count places = (k : ℕ) → k < count → place_in places k ≡ place_among kept k

-- the uses, by these places of their entries
abbrev pub at_places : List ℕ → List Use → List Use
at_places places uses = map (λ u. record { entry = place_in places u.entry; side = u.side }) uses

-- a clause of no literal, as its line spells it
abbrev pub no_literals : List ℕ → Bool
no_literals [] = true
no_literals (literal ∷ literals) = false

abbrev pub spells_empty : List (List ℕ) → Bool
spells_empty clauses = list_any no_literals clauses

-- an entry of this kind gives its own clauses
abbrev pub if_given : Kind → Bool → Bool
if_given Reach empty = empty
if_given Wall empty = false

-- the entry, if there is one, gives an empty clause where it is used
abbrev pub written_empties : Option Written → Bool
written_empties None = false
written_empties (Some e) = if_given e.kind (spells_empty e.clauses)

abbrev pub any_empties : List Written → List Use → Bool
any_empties entries uses = list_any (λ u. written_empties (slice_get entries u.entry)) uses

-- entry k of these, which all say this
abbrev pub IsEntryOf : Circuit → List Written → List Entry → ℕ → Written → Type 0
IsEntryOf c entries all k e = AreProvedBehind c [] entries all × (slice_get entries k ≡ Some e)

-- the list has what becomes of entry k more, where it is kept
abbrev pub GetsEntry : (Numbered → Written → Type 0) → Bool → Numbered → List Written → List Written → Type 0
GetsEntry R true from old new = (to : Written) × R from to × (new ≡ old ++ to ∷ [])
GetsEntry R false from old new = new ≡ old
