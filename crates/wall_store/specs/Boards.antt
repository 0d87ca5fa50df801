-- The board: a list of entries that workers share, and what was found of each property that it serves. Its list becomes
-- that of a certificate, after FAIR (Bradley, Somenzi, Hassan, Zhang, 2011); that workers share it is this program's.
use Rattle.std.specs.Prelude.{◌≡◌, ℕ, ◌+◌, ◌<◌, ◌≤◌, ◌==◌, min, Bool, true, false, List, [], ◌∷◌, ◌++◌, map, length, filter, replicate, Option, Some, None, if◌then◌else◌}
use Rattle.std.specs.List.{All, Any, AllPairs}
use Rattle.aig_semantics.specs.Circuits.{Circuit}
use Rattle.aig_semantics.specs.Stimuli.{IsFairLassoOf}
use Rattle.fair_semantics.specs.declared.skeletons.Skeleton.{Skeleton}
use Rattle.fair_semantics.specs.Entries.{Entry, numbered}
use Rattle.fair_semantics.specs.Allowing.{allow}
use Rattle.fair_semantics.specs.Skeletons.{IsSkeleton, places, excludes}
use Rattle.entry.specs.declared.origins.Origin.{Origin}
use Rattle.entry.specs.declared.origins.Origin.TheVariants.{Given, Worker}
use Rattle.entry.specs.declared.origins.Work.{Work}
use Rattle.entry.specs.Proved.{IsGoodRefutation}
use Rattle.entry.specs.CheckedEntries.{CheckedEntry, HoldsBehind}
use Rattle.wall_store.specs.declared.outcomes.Outcome.{Outcome}
use Rattle.wall_store.specs.declared.outcomes.Outcome.TheVariants.{Lasso, Holds}
use Rattle.wall_store.specs.declared.outcomes.Served.{Served}

-- A board of a circuit: the properties that it serves, in order, each with its outcome if it has one; how many workers
-- share it; how long its list may become; the list, with how many entries of it were given at first; and for each
-- worker how many entries it has seen.
pub record BoardState : Type 0 where
  pub circuit : Circuit
  pub served : List Served
  pub workers : ℕ
  pub limit : ℕ
  pub given : ℕ
  pub entries : List CheckedEntry
  pub seen : List ℕ

-- no list is longer
abbrev pub most_entries : ℕ
most_entries = 65536

-- the entries without what was kept of their checks
abbrev pub plain : List CheckedEntry → List Entry
plain entries = map (λ e. e.entry) entries

-- the entries allow the skeleton
abbrev pub Allow : List CheckedEntry → Skeleton → Type 0
Allow entries skeleton = allow (numbered (plain entries)) (places skeleton) ≡ true

-- wherever an entry stands in the list, this is so of those before it and of it
abbrev pub EachBehind : (List CheckedEntry → CheckedEntry → Type 0) → List CheckedEntry → Type 0
EachBehind P entries =
    (before after : List CheckedEntry) (e : CheckedEntry) → entries ≡ before ++ e ∷ after → P before e

-- behind these the entry is one of the circuit, is valid there and proved
pub record IsSound (c : Circuit) (before : List CheckedEntry) (e : CheckedEntry) : Type 0 where
  pub circuit : e.circuit ≡ c
  pub holds : HoldsBehind (plain before) e

-- each entry is sound behind those before it
abbrev pub IsSoundList : Circuit → List CheckedEntry → Type 0
IsSoundList c entries = EachBehind (IsSound c) entries

-- the entry is a worker's, and this is so of its work
abbrev pub FromWorker : Origin → (Work → Type 0) → Type 0
FromWorker Given P = ⊥
FromWorker (Worker work) P = P work

-- the entry is one that this worker found
abbrev pub is_by : ℕ → Origin → Bool
is_by worker Given = false
is_by worker (Worker work) = work.author == worker

-- those of a list of entries whose origin is this worker
abbrev pub found_by : ℕ → List CheckedEntry → List CheckedEntry
found_by worker entries = filter (λ e. is_by worker e.origin) entries

-- the turn in which the entry was found
abbrev pub turn_of : Origin → ℕ
turn_of Given = 0
turn_of (Worker work) = work.turn

-- the turns in which a worker found its entries of this list ascend
abbrev pub AscendBy : ℕ → List CheckedEntry → Type 0
AscendBy worker list = AllPairs (λ i j. i < j) (map (λ e. turn_of e.origin) (found_by worker list))

-- they ascend, and are below a number
abbrev pub Ascend : ℕ → List CheckedEntry → ℕ → Type 0
Ascend worker list turns = AscendBy worker list × All (λ e. turn_of e.origin < turns) (found_by worker list)

abbrev pub properties_of : List Served → List ℕ
properties_of served = map (λ s. s.property) served

-- the skeleton is one of a property that is served
abbrev pub IsOfServed : BoardState → Skeleton → Type 0
IsOfServed b skeleton = Any (λ j. IsSkeleton b.circuit j skeleton) (properties_of b.served)

-- A find of one of these workers: an entry with a skeleton, of one of these properties, that those before the entry
-- allow and that the entry excludes.
pub record IsFind (c : Circuit) (properties : List ℕ) (workers : ℕ)
    (before : List CheckedEntry) (e : CheckedEntry) (work : Work) : Type 0 where
  pub author : work.author < workers
  pub skeleton : Any (λ j. IsSkeleton c j work.skeleton) properties
  pub allowed : Allow before work.skeleton
  pub excluded : excludes (plain before ++ e.entry ∷ []) (length before) work.skeleton ≡ true

-- if the entry is none of those that were given, it is a find
abbrev pub IsFound : BoardState → List CheckedEntry → CheckedEntry → Type 0
IsFound b before e =
    b.given ≤ length before → FromWorker e.origin (IsFind b.circuit (properties_of b.served) b.workers before e)

-- Of property j the outcome is true, over these entries: a fair lasso, or a refutation.
abbrev pub IsTrueOf : Circuit → List CheckedEntry → ℕ → Outcome → Type 0
IsTrueOf c entries j (Lasso lasso) = IsFairLassoOf c j lasso
IsTrueOf c entries j (Holds r) = IsGoodRefutation c (plain entries) j r.uses r.proof

-- the outcome of a property, if there is one
abbrev pub outcome_of : List Served → ℕ → Option Outcome
outcome_of [] j = None
outcome_of (s ∷ served) j = if s.property == j then s.outcome else outcome_of served j

-- What a board is at any time. Its properties ascend and are the circuit's; it has 1 to 64 workers; the given entries
-- stand in front, and at most as many entries as the limit in all; each entry is sound behind those before it, and each
-- that was not given is a worker's find; the outcomes are true; and no worker has seen more than there is.
pub record IsBoard (b : BoardState) : Type 0 where
  pub ascend : AllPairs (λ i j. i < j) (properties_of b.served)
  pub properties : All (λ j. j < length b.circuit.justice) (properties_of b.served)
  pub some_workers : 1 ≤ b.workers
  pub few_workers : b.workers ≤ 64
  pub given : b.given ≤ length b.entries
  pub within : length b.entries ≤ b.limit
  pub limit : b.limit ≤ most_entries
  pub sound : IsSoundList b.circuit b.entries
  pub found : EachBehind (IsFound b) b.entries
  pub outcomes : (j : ℕ) (o : Outcome) → outcome_of b.served j ≡ Some o → IsTrueOf b.circuit b.entries j o
  pub each_seen : length b.seen ≡ b.workers
  pub seen : All (λ n. n ≤ length b.entries) b.seen

-- The board with which the work begins: the list is the given one, which every worker has seen, no property has an
-- outcome, and the list may grow by `more` entries, as long as it does not become too long.
abbrev pub first_board : Circuit → List ℕ → ℕ → ℕ → List CheckedEntry → BoardState
first_board c properties workers more given = record {
  circuit = c;
  served = map (λ j. record { property = j; outcome = None }) properties;
  workers = workers;
  limit = min (length given + more) most_entries;
  given = length given;
  entries = given;
  seen = replicate workers (length given);
}
