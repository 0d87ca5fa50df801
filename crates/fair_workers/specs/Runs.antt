-- What workers leave that search over one board: an answer for each property, or a report that shows what was spent.
-- The search is FAIR (Bradley, Somenzi, Hassan, Zhang, An incremental approach to model checking progress properties,
-- 2011); that several workers share its list is this program's.
use Rattle.std.specs.Prelude.{◌≡◌, ℕ, ◌+◌, ◌-◌, ◌*◌, ◌<◌, ◌≤◌, ◌⊎◌, min, max, List, [], ◌∷◌, ◌++◌, length, take, drop, Some}
use Rattle.std.specs.List.{All, AllPairs}
use Rattle.aig_semantics.specs.Circuits.{Circuit, fair_literals}
use Rattle.fair_semantics.specs.declared.skeletons.Skeleton.{Skeleton}
use Rattle.edge.specs.Units.{Spendings, IsWithin, limit_of}
use Rattle.edge.specs.Ends.{IsSpent}
use Rattle.entry.specs.CheckedEntries.{CheckedEntry}
use Rattle.skeleton.specs.Finding.{IsAllowed}
use Rattle.wall_store.specs.Boards.{BoardState, IsBoard, FromWorker, AscendBy, plain, most_entries, properties_of}
use Rattle.wall_store.specs.Events.{IsOpen, IsSettled}
use Rattle.fair_round.specs.Spending.{path_steps}
use Rattle.lasso_bmc.specs.Searching.{HasNoneWithin}
use Rattle.search_reports.specs.declared.limits.Limits.{Limits}
use Rattle.search_reports.specs.declared.limits.Report.{Report}
use Rattle.search_reports.specs.declared.limits.Ended.{Ended}
use Rattle.search_reports.specs.declared.limits.Ended.TheVariants.{Spent, Memory}

-- What is asked of workers: the circuit, the properties, what they may spend, and the entries that are given.
pub record Task : Type 0 where
  pub circuit : Circuit
  pub properties : List ℕ
  pub limits : Limits
  pub given : List CheckedEntry

-- how many positions a lasso has at most that lasso workers ask for
abbrev pub most_depth : ℕ
most_depth = 65536

-- 1 to 64 workers, a list that grows by 65,536 entries at most, and a depth of 65,536 positions at most
pub record AreLimits (limits : Limits) : Type 0 where
  pub some : 1 ≤ limits.workers
  pub few : limits.workers ≤ 64
  pub skeletons : limits.skeletons ≤ most_entries
  pub depth : limits.depth ≤ most_depth

-- where there are to be lasso workers, one property is served
abbrev pub ServesOne : Limits → List ℕ → Type 0
ServesOne limits properties = 0 < limits.lassos → length properties ≡ 1

-- how many workers are lasso workers: the last ones, and never all
abbrev pub lasso_workers : Limits → ℕ
lasso_workers limits = min limits.lassos (limits.workers - 1)

-- how many are not, which are the first ones
abbrev pub round_workers : Limits → ℕ
round_workers limits = limits.workers - lasso_workers limits

-- no more properties are served
abbrev pub most_properties : ℕ
most_properties = 536870912

-- Properties that may be served: their numbers ascend, are those of properties of the circuit, and are no more than that.
pub record AreServed (c : Circuit) (properties : List ℕ) : Type 0 where
  pub ascend : AllPairs (λ i j. i < j) properties
  pub inside : All (λ j. j < length c.justice) properties
  pub few : length properties ≤ most_properties

-- the turn in which a worker that serves several properties is told that each has an outcome
abbrev pub last_turns : List ℕ → ℕ
last_turns properties = min 1 (length properties - 1)

-- How many turns a worker takes at most that is no lasso worker: three (it asks for an open property, looks, and searches) for
-- each entry by which the list may grow, three in which it finds the list full, and three for each property; and one more where
-- there are several. (A lasso worker, which finds no entry, takes `most_lasso_turns` at most.)
abbrev pub most_turns : Task → ℕ
most_turns task = 3 * (task.limits.skeletons + 1 + length task.properties) + last_turns task.properties

-- how many turns a lasso worker takes at most: two for each position of the depth, and three
abbrev pub most_lasso_turns : ℕ → ℕ
most_lasso_turns depth = depth * 2 + 3

-- a worker found the entry, within so many turns
abbrev pub IsFoundWithin : ℕ → CheckedEntry → Type 0
IsFoundWithin turns e = FromWorker e.origin (λ work. work.turn < turns)

-- a worker that is no lasso worker found the entry
abbrev pub IsByRoundWorker : Limits → CheckedEntry → Type 0
IsByRoundWorker limits e = FromWorker e.origin (λ work. work.author < round_workers limits)

-- A board of the task: its circuit, properties, workers and limit are those of the task; its list is the given entries, and
-- then those that workers found, none of them a lasso worker, within the turns that a worker takes at most, each worker's in
-- ascending turns; and it is what a board is at any time.
pub record IsBoardOf (task : Task) (b : BoardState) : Type 0 where
  pub board : IsBoard b
  pub circuit : b.circuit ≡ task.circuit
  pub properties : properties_of b.served ≡ task.properties
  pub workers : b.workers ≡ task.limits.workers
  pub limit : b.limit ≡ min (length task.given + task.limits.skeletons) most_entries
  pub given : b.given ≡ length task.given
  pub entries : (found : List CheckedEntry) × (b.entries ≡ task.given ++ found) × All (IsFoundWithin (most_turns task)) found
  pub own : (w : ℕ) → AscendBy w (drop (length task.given) b.entries)
  pub authors : All (IsByRoundWorker task.limits) (drop (length task.given) b.entries)

-- each served property has an outcome
pub record IsAnswered (task : Task) (b : BoardState) : Type 0 where
  pub board : IsBoardOf task b
  pub settled : IsSettled b.served

-- counted against these limits
pub record IsWithLimits (limits : Limits) (spent : Spendings) : Type 0 where
  pub conflicts : spent.conflict_limit ≡ limit_of limits.conflicts
  pub steps : spent.step_limit ≡ limit_of limits.steps

-- no count is above its limit
pub record IsInBudget (spent : Spendings) : Type 0 where
  pub conflicts : IsWithin spent.conflicts spent.conflict_limit
  pub steps : IsWithin spent.steps spent.step_limit

-- The list is as long as it may become, and of each open property there is a skeleton that all its entries allow.
pub record IsFull (b : BoardState) : Type 0 where
  pub full : length b.entries ≡ b.limit
  pub allows : (j : ℕ) → IsOpen b.served j → (s : Skeleton) × IsAllowed b.circuit j (plain b.entries) s

-- how many situations a skeleton of one of these properties has at most
abbrev pub most_situations : Circuit → List ℕ → ℕ
most_situations c [] = 0
most_situations c (j ∷ properties) = max (max 1 (length (fair_literals c j))) (most_situations c properties)

-- How many steps a worker takes at most, whatever its limit is. It seeks a lasso once for each entry by which the list may
-- grow and once for each property; and a path to the first situation of a skeleton, to each further one, and back.
abbrev pub most_steps : Task → ℕ
most_steps task =
    (task.limits.skeletons + length task.properties)
    * ((most_situations task.circuit task.properties + 1) * path_steps (length task.circuit.latches))

-- What a worker spent: counted against the limits of the task, within them, and no more steps than a worker takes at most.
pub record IsSpentOn (task : Task) (spent : Spendings) : Type 0 where
  pub limits : IsWithLimits task.limits spent
  pub within : IsInBudget spent
  pub most : spent.steps ≤ most_steps task

-- what each worker spent
pub record AreSpentOn (task : Task) (workers : List Spendings) : Type 0 where
  pub count : length workers ≡ task.limits.workers
  pub each : All (IsSpentOn task) workers

-- within the depth of the task, and no fair lasso of a served property has at most so many positions
pub record IsDepthOf (task : Task) (done : ℕ) : Type 0 where
  pub within : done ≤ task.limits.depth
  pub none : All (λ j. HasNoneWithin task.circuit j done) task.properties

-- how many positions each lasso worker has done
pub record AreDepths (task : Task) (depths : List ℕ) : Type 0 where
  pub count : length depths ≡ lasso_workers task.limits
  pub each : All (IsDepthOf task) depths

-- A lasso worker has spent what it may: the count of conflicts equals its limit, or the depth is done.
abbrev pub IsLassoSpent : ℕ → Spendings → ℕ → Type 0
IsLassoSpent depth spent done = (spent.conflict_limit ≡ Some spent.conflicts) ⊎ (done ≡ depth)

-- the same of lasso workers, each with what it has done
abbrev pub AreLassosSpent : ℕ → List Spendings → List ℕ → Type 0
AreLassosSpent depth [] [] = Unit {0}
AreLassosSpent depth [] (done ∷ depths) = ⊥
AreLassosSpent depth (spent ∷ workers) [] = ⊥
AreLassosSpent depth (spent ∷ workers) (done ∷ depths) = IsLassoSpent depth spent done × AreLassosSpent depth workers depths

-- each worker has spent what it may
pub record AreAllSpent (limits : Limits) (workers : List Spendings) (depths : List ℕ) : Type 0 where
  pub rounds : All IsSpent (take (round_workers limits) workers)
  pub lassos : AreLassosSpent limits.depth (drop (round_workers limits) workers) depths

-- An answer: each served property has an outcome; what each worker spent, and what lasso workers have done.
pub record IsAnswer (task : Task) (r : Report) : Type 0 where
  pub answered : IsAnswered task r.board
  pub spent : AreSpentOn task r.workers
  pub depths : AreDepths task r.depths
  pub depth : r.depth ≡ task.limits.depth

-- A report without an answer: a property is open, and either the list is full, or each worker has spent what it may.
pub record IsReport (task : Task) (r : Report) : Type 0 where
  pub board : IsBoardOf task r.board
  pub unanswered : (j : ℕ) × IsOpen r.board.served j
  pub spent : AreSpentOn task r.workers
  pub depths : AreDepths task r.depths
  pub depth : r.depth ≡ task.limits.depth
  pub cause : IsFull r.board ⊎ AreAllSpent task.limits r.workers r.depths

-- Why workers end without an answer; want of memory says nothing.
abbrev pub IsEnded : Task → Ended → Type 0
IsEnded task (Spent report) = IsReport task report
IsEnded task Memory = Unit {0}
