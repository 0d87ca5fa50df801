-- Scaffolding of inner functions. What a worker knows of a list that it shares with others, and what a call for the list
-- makes of that. It goes for a board on which workers take turns, and for whatever else may lend one a list.
use Rattle.std.specs.Prelude.{◌≡◌, ℕ, ◌+◌, ◌<◌, ◌≤◌, ◌⊎◌, Bool, true, false, List, [], ◌∷◌, ◌++◌, length, Contains, Option, Some, None}
use Rattle.std.specs.List.{Any}
use Rattle.aig_semantics.specs.Circuits.{Circuit}
use Rattle.fair_semantics.specs.Entries.{used_entries, AreClosed}
use Rattle.fair_semantics.specs.Skeletons.{IsSkeleton}
use Rattle.entry.specs.declared.origins.Work.{Work}
use Rattle.entry.specs.CheckedEntries.{CheckedEntry}
use Rattle.wall_store.specs.declared.outcomes.Posted.{Posted}
use Rattle.wall_store.specs.declared.outcomes.Posted.TheVariants as posts
use Rattle.wall_store.specs.Boards.{Allow, FromWorker, plain}

-- The circuit and the properties of the list; the worker's number, and how many turns it has taken; with how many entries
-- the list began, and how long it may become; the entries that the worker has seen; and which properties it knows to have
-- an outcome.
pub record Known : Type 0 where
  pub circuit : Circuit
  pub properties : List ℕ
  pub number : ℕ
  pub turns : ℕ
  pub given : ℕ
  pub limit : ℕ
  pub list : List CheckedEntry
  pub settled : ℕ → Bool

-- each property is known to have an outcome
abbrev pub AreSettled : Known → Type 0
AreSettled k = (j : ℕ) → Contains k.properties j → k.settled j ≡ true

-- What each call leaves, refused or not: it is one turn more at most, and what is settled stays so.
pub record Keeps (k l : Known) : Type 0 where
  pub circuit : l.circuit ≡ k.circuit
  pub properties : l.properties ≡ k.properties
  pub number : l.number ≡ k.number
  pub given : l.given ≡ k.given
  pub limit : l.limit ≡ k.limit
  pub turns : l.turns ≤ k.turns + 1
  pub settled : (j : ℕ) → k.settled j ≡ true → l.settled j ≡ true

-- the entries that were seen are the same
pub record KeepsList (k l : Known) : Type 0 where
  pub keeps : Keeps k l
  pub list : l.list ≡ k.list

-- the entries that were seen are those, and possibly more behind them, within the limit
pub record SeesMore (k l : Known) : Type 0 where
  pub keeps : Keeps k l
  pub list : (more : List CheckedEntry) × (l.list ≡ k.list ++ more)
  pub within : length l.list ≤ l.limit

-- What the answer to a post tells: the worker then sees more; or the list is full; or there is nothing left to find.
abbrev pub TellsPosted : Known → Known → Posted → Type 0
TellsPosted k l (posts.Appended n) = length k.list < length l.list
TellsPosted k l (posts.Stale n) = length k.list < length l.list
TellsPosted k l posts.Full = length l.list ≡ l.limit
TellsPosted k l posts.Closed = AreSettled l

pub record HasPosted (k : Known) (r : Posted) (l : Known) : Type 0 where
  pub sees : SeesMore k l
  pub tells : TellsPosted k l r

-- An entry that was appended is then the last that the worker has seen, and has this number.
abbrev pub IsLastOf : CheckedEntry → Known → Posted → Type 0
IsLastOf e l (posts.Appended n) = (before : List CheckedEntry) × (l.list ≡ before ++ e ∷ []) × (n ≡ length before)
IsLastOf e l (posts.Stale n) = Unit {0}
IsLastOf e l posts.Full = Unit {0}
IsLastOf e l posts.Closed = Unit {0}

-- property j was handed in
pub record HasFinished (j : ℕ) (k l : Known) : Type 0 where
  pub keeps : KeepsList k l
  pub settled : l.settled j ≡ true

-- Property j is open; and each from a number on has an outcome, up to j, or all of them where j is below that number.
pub record IsNext (l : Known) (from j : ℕ) : Type 0 where
  pub served : Contains l.properties j
  pub unsettled : l.settled j ≡ false
  pub passed : (i : ℕ) → Contains l.properties i → from ≤ i → (i < j) ⊎ (j < from) → l.settled i ≡ true

-- What the answer to a question for an open property from a number on tells: each has an outcome; or this one is next.
abbrev pub TellsAsked : Known → ℕ → Option ℕ → Type 0
TellsAsked l from None = AreSettled l
TellsAsked l from (Some j) = IsNext l from j

pub record HasAsked (k : Known) (from : ℕ) (r : Option ℕ) (l : Known) : Type 0 where
  pub keeps : KeepsList k l
  pub tells : TellsAsked l from r

-- What a worker may post is an entry of its own and of this turn, that is of the circuit, whose uses are closed among the
-- entries that it has seen, and whose skeleton, one of a property of the list, these allow.
pub record IsOwn (k : Known) (e : CheckedEntry) (work : Work) : Type 0 where
  pub circuit : e.circuit ≡ k.circuit
  pub author : work.author ≡ k.number
  pub turn : work.turn ≡ k.turns
  pub closed : AreClosed (plain k.list) e.entry.uses
  pub used : e.used ≡ used_entries (plain k.list) e.entry.uses
  pub skeleton : Any (λ j. IsSkeleton k.circuit j work.skeleton) k.properties
  pub allowed : Allow k.list work.skeleton

abbrev pub MayPostFrom : Known → CheckedEntry → Type 0
MayPostFrom k e = FromWorker e.origin (IsOwn k e)
