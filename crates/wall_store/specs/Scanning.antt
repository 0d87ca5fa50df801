-- How the properties and the entries of a board are looked through (scaffolding).
use Rattle.std.specs.Prelude.{◌≡◌, ℕ, Bool, true, false, ◌+◌, ◌<◌, ◌≤◌, ◌&&◌, List, [], ◌∷◌, length, Option, Some, None, is_some, is_none, if◌then◌else◌, ◌==◌, nat_le}
use Rattle.std.specs.List.{list_all}
use Rattle.fair_semantics.specs.declared.skeletons.Skeleton.{Skeleton}
use Rattle.fair_semantics.specs.Entries.{Entry}
use Rattle.fair_semantics.specs.Skeletons.{excludes}
use Rattle.entry.specs.declared.origins.Origin.{Origin}
use Rattle.entry.specs.declared.origins.Origin.TheVariants.{Given, Worker}
use Rattle.entry.specs.declared.origins.Work.{Work}
use Rattle.wall_store.specs.declared.outcomes.Served.{Served}
use Rattle.wall_store.specs.declared.outcomes.Posted.{Posted}
use Rattle.wall_store.specs.declared.outcomes.Posted.TheVariants as posts

-- the place of the first with this number, or how many there are
abbrev pub place_in : List Served → ℕ → ℕ
place_in [] j = 0
place_in (s ∷ served) j = if s.property == j then 0 else place_in served j + 1

-- the first from a number on that has no outcome
abbrev pub least_in : ℕ → List Served → Option ℕ
least_in least [] = None
least_in least (s ∷ served) =
    if nat_le least s.property && is_none s.outcome then Some s.property else least_in least served

-- the first, or the second where there is none
abbrev pub next_in : Option ℕ → Option ℕ → Option ℕ
next_in (Some j) second = Some j
next_in None second = second

-- whether each has an outcome
abbrev pub all_settled : List Served → Bool
all_settled served = list_all (λ s. is_some s.outcome) served

-- none of the entries from one number on, below another, excludes the skeleton
abbrev pub NoneWithin : List Entry → Skeleton → ℕ → ℕ → Type 0
NoneWithin entries skeleton low high = (m : ℕ) → low ≤ m → m < high → excludes entries m skeleton ≡ false

pub record IsFirstFrom (entries : List Entry) (skeleton : Skeleton) (low n : ℕ) : Type 0 where
  pub inside : n < length entries
  pub excluded : excludes entries n skeleton ≡ true
  pub before : NoneWithin entries skeleton low n

-- the first entry from a number on that excludes the skeleton
abbrev pub IsScan : List Entry → Skeleton → ℕ → Option ℕ → Type 0
IsScan entries skeleton low None = NoneWithin entries skeleton low (length entries)
IsScan entries skeleton low (Some n) = IsFirstFrom entries skeleton low n

-- The answer to a post, by whether each property has an outcome, and by the entries from a number on.
abbrev pub IsScanned : Bool → ℕ → List Entry → Skeleton → ℕ → Posted → Type 0
IsScanned settled limit entries skeleton low posts.Closed = settled ≡ true
IsScanned settled limit entries skeleton low posts.Full = (settled ≡ false) × (limit ≤ length entries)
IsScanned settled limit entries skeleton low (posts.Stale n) =
    ((settled ≡ false) × (length entries < limit)) × IsFirstFrom entries skeleton low n
IsScanned settled limit entries skeleton low (posts.Appended n) =
    ((settled ≡ false) × (length entries < limit))
    × (NoneWithin entries skeleton low (length entries) × (n ≡ length entries))

-- of the work of an entry of a worker this is so
abbrev pub OfWork : Origin → (Work → Type 0) → Type 0
OfWork Given P = Unit {0}
OfWork (Worker work) P = P work

-- the entry was not appended
abbrev pub IsRefused : Posted → Type 0
IsRefused posts.Closed = Unit {0}
IsRefused posts.Full = Unit {0}
IsRefused (posts.Stale n) = Unit {0}
IsRefused (posts.Appended n) = ⊥
