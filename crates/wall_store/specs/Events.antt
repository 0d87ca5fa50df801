-- The events of a board, each as a relation between the board before it, its answer, and the board after it. No two
-- events are at work at once. A list that grows by one entry after the other is that of FAIR (Bradley, Somenzi, Hassan,
-- Zhang, 2011); what a board answers to workers that share it is this program's.
use Rattle.std.specs.Prelude.{◌≡◌, ◌≢◌, ℕ, ◌<◌, ◌≤◌, ◌⊎◌, true, false, List, [], ◌∷◌, ◌++◌, length, take, slice_set, slice_index_or, Contains, Option, Some, None, ◌==◌, if◌then◌else◌}
use Rattle.fair_semantics.specs.declared.skeletons.Skeleton.{Skeleton}
use Rattle.fair_semantics.specs.Entries.{Entry}
use Rattle.fair_semantics.specs.Skeletons.{excludes}
use Rattle.entry.specs.declared.origins.Work.{Work}
use Rattle.entry.specs.CheckedEntries.{CheckedEntry, StandIn}
use Rattle.wall_store.specs.declared.outcomes.Outcome.{Outcome}
use Rattle.wall_store.specs.declared.outcomes.Served.{Served}
use Rattle.wall_store.specs.declared.outcomes.Posted.{Posted}
use Rattle.wall_store.specs.declared.outcomes.Posted.TheVariants as posts
use Rattle.wall_store.specs.declared.outcomes.Finished.{Finished}
use Rattle.wall_store.specs.declared.outcomes.Finished.TheVariants as ends
use Rattle.wall_store.specs.Boards.{BoardState, plain, Allow, FromWorker, IsOfServed, properties_of, outcome_of}

-- how many entries a worker has seen
abbrev pub seen_by : BoardState → ℕ → ℕ
seen_by b w = slice_index_or b.seen w 0

-- the entries that a worker has seen
abbrev pub list_of : BoardState → ℕ → List CheckedEntry
list_of b w = take (seen_by b w) b.entries

-- the worker has seen the whole list
abbrev pub shown_to : BoardState → ℕ → BoardState
shown_to b w = record b { seen = slice_set b.seen w (length b.entries) }

-- A served property is open as long as it has no outcome,
abbrev pub IsOpen : List Served → ℕ → Type 0
IsOpen served j = Contains (properties_of served) j × (outcome_of served j ≡ None)

-- and a board is settled where no property is open.
abbrev pub IsSettled : List Served → Type 0
IsSettled served = (j : ℕ) → IsOpen served j → ⊥

-- A worker looks: it is told how long the list is, and has seen it all.
pub record Looks (b : BoardState) (w : ℕ) (n : ℕ) (c : BoardState) : Type 0 where
  pub answer : n ≡ length b.entries
  pub after : c ≡ shown_to b w

-- What a worker may post is an entry of its own that is of the circuit, whose uses stand in the list, and whose
-- skeleton, one of a served property, is allowed by all that the worker has seen.
pub record IsPostOf (b : BoardState) (w : ℕ) (e : CheckedEntry) (work : Work) : Type 0 where
  pub circuit : e.circuit ≡ b.circuit
  pub author : work.author ≡ w
  pub uses : StandIn (plain b.entries) e.used
  pub skeleton : IsOfServed b work.skeleton
  pub allowed : Allow (list_of b w) work.skeleton

abbrev pub MayPost : BoardState → ℕ → CheckedEntry → Type 0
MayPost b w e = FromWorker e.origin (IsPostOf b w e)

-- entry n is the first that excludes the skeleton
pub record IsFirstAgainst (entries : List Entry) (skeleton : Skeleton) (n : ℕ) : Type 0 where
  pub inside : n < length entries
  pub excluded : excludes entries n skeleton ≡ true
  pub first : (m : ℕ) → m < n → excludes entries m skeleton ≡ false

-- the list may grow, and there is something left to find
pub record TakesEntries (b : BoardState) : Type 0 where
  pub unsettled : IsSettled b.served → ⊥
  pub room : length b.entries < b.limit

-- The answer to a post with this skeleton: Closed where the board is settled; else Full where the list is at its limit;
-- else Stale with the number of the first entry that excludes the skeleton; else Appended with the number that the
-- entry gets.
abbrev pub IsPosted : BoardState → Skeleton → Posted → Type 0
IsPosted b skeleton posts.Closed = IsSettled b.served
IsPosted b skeleton posts.Full = (IsSettled b.served → ⊥) × (length b.entries ≡ b.limit)
IsPosted b skeleton (posts.Stale n) = TakesEntries b × IsFirstAgainst (plain b.entries) skeleton n
IsPosted b skeleton (posts.Appended n) = TakesEntries b × (Allow b.entries skeleton × (n ≡ length b.entries))

-- the list with the entry, where it was appended
abbrev pub entries_after : List CheckedEntry → CheckedEntry → Posted → List CheckedEntry
entries_after entries e posts.Closed = entries
entries_after entries e posts.Full = entries
entries_after entries e (posts.Stale n) = entries
entries_after entries e (posts.Appended n) = entries ++ e ∷ []

abbrev pub with_post : BoardState → CheckedEntry → Posted → BoardState
with_post b e r = record b { entries = entries_after b.entries e r }

-- A worker posts an entry: it gets that answer, and has then seen the whole list as it is.
pub record Posts (b : BoardState) (w : ℕ) (e : CheckedEntry) (r : Posted) (c : BoardState) : Type 0 where
  pub answer : FromWorker e.origin (λ work. IsPosted b work.skeleton r)
  pub after : c ≡ shown_to (with_post b e r) w

-- the served properties, with this outcome of one of them
abbrev pub with_outcome : List Served → ℕ → Outcome → List Served
with_outcome [] j o = []
with_outcome (s ∷ served) j o =
    if s.property == j then record { property = s.property; outcome = Some o } ∷ served else s ∷ with_outcome served j o

-- Won where the property has no outcome yet, Closed where it has one
abbrev pub IsFinished : List Served → ℕ → Finished → Type 0
IsFinished served j ends.Won = outcome_of served j ≡ None
IsFinished served j ends.Closed = outcome_of served j ≢ None

abbrev pub served_after : List Served → ℕ → Outcome → Finished → List Served
served_after served j o ends.Won = with_outcome served j o
served_after served j o ends.Closed = served

-- A worker hands in an outcome of a property: the first one stays.
pub record Finishes (b : BoardState) (j : ℕ) (o : Outcome) (r : Finished) (c : BoardState) : Type 0 where
  pub answer : IsFinished b.served j r
  pub after : c ≡ record b { served = served_after b.served j o r }

-- j is the least open property from a number on
pub record IsLeastOpen (served : List Served) (least : ℕ) (j : ℕ) : Type 0 where
  pub open_one : IsOpen served j
  pub from_on : least ≤ j
  pub none_before : (i : ℕ) → least ≤ i → i < j → IsOpen served i → ⊥

abbrev pub NoneOpenFrom : List Served → ℕ → Type 0
NoneOpenFrom served least = (i : ℕ) → least ≤ i → IsOpen served i → ⊥

-- The next open property: the least from a number on; where there is none from there on, the least of all; none where
-- the board is settled.
abbrev pub IsNextOpen : List Served → ℕ → Option ℕ → Type 0
IsNextOpen served least None = IsSettled served
IsNextOpen served least (Some j) =
    IsLeastOpen served least j ⊎ (NoneOpenFrom served least × IsLeastOpen served 0 j)

-- A worker asks for the next open property: nothing changes.
pub record OpensNext (b : BoardState) (least : ℕ) (r : Option ℕ) (c : BoardState) : Type 0 where
  pub answer : IsNextOpen b.served least r
  pub after : c ≡ b
