-- Scaffolding of inner functions. Workers that are done with a board, however they shared its list.
use Rattle.std.specs.Prelude.{◌≡◌, ℕ, ◌<◌, ◌≤◌, Bool, false, List, [], ◌∷◌, length, slice_index_or, Option, None, Some}
use Rattle.std.specs.List.{All, list_any}
use Rattle.aig_semantics.specs.Circuits.{Circuit}
use Rattle.edge.specs.Units.{Spendings}
use Rattle.edge.specs.Ends.{IsSpent}
use Rattle.lasso_bmc.specs.Searching.{HasNoneWithin}
use Rattle.wall_store.specs.Boards.{BoardState}
use Rattle.wall_store.specs.Events.{IsSettled}
use Rattle.fair_workers.specs.declared.working.Phase.{Phase}
use Rattle.fair_workers.specs.declared.working.Phase.TheVariants as phases
use Rattle.fair_workers.specs.declared.ending.WorkerEnd.{WorkerEnd}
use Rattle.fair_workers.specs.declared.lasso_search.LassoSearch.{LassoSearch}
use Rattle.search_reports.specs.declared.limits.Limits.{Limits}
use Rattle.fair_workers.specs.declared.working.Worker.{Worker}
use Rattle.fair_workers.specs.Runs.{Task, IsBoardOf, IsFull, IsLassoSpent, IsSpentOn, round_workers}
use Rattle.fair_workers.specs.Working.{is_deep, is_refused}

-- how many positions are done, of a lasso worker
abbrev pub done_in : Option LassoSearch → Option ℕ
done_in None = None
done_in (Some s) = Some s.done

-- how a worker has ended
abbrev pub end_as : Worker → WorkerEnd
end_as w = record { spent = w.meter; phase = w.phase; done = done_in w.lasso_search }

-- What a worker tells of the board by the phase in which it ended, and by what it had spent.
abbrev pub Tells : BoardState → Spendings → Phase → Type 0
Tells b spent phases.Asks = ⊥
Tells b spent phases.Looks = ⊥
Tells b spent phases.Searches = ⊥
Tells b spent (phases.AsksLast from) = ⊥
Tells b spent phases.LooksLast = ⊥
Tells b spent phases.SearchesLast = ⊥
Tells b spent (phases.AsksDeeper after) = ⊥
Tells b spent (phases.Deepens after) = ⊥
Tells b spent phases.Closed = IsSettled b.served
Tells b spent phases.Full = IsFull b
Tells b spent phases.Spent = IsSpent spent
Tells b spent phases.Deep = Unit {0}
Tells b spent phases.Refused = Unit {0}

-- why a lasso worker ended
abbrev pub EndsDeep : ℕ → Spendings → ℕ → Phase → Type 0
EndsDeep depth spent done phases.Asks = ⊥
EndsDeep depth spent done phases.Looks = ⊥
EndsDeep depth spent done phases.Searches = ⊥
EndsDeep depth spent done (phases.AsksLast from) = ⊥
EndsDeep depth spent done phases.LooksLast = ⊥
EndsDeep depth spent done phases.SearchesLast = ⊥
EndsDeep depth spent done (phases.AsksDeeper after) = ⊥
EndsDeep depth spent done (phases.Deepens after) = ⊥
EndsDeep depth spent done phases.Closed = Unit {0}
EndsDeep depth spent done phases.Full = ⊥
EndsDeep depth spent done phases.Spent = ⊥
EndsDeep depth spent done phases.Deep = IsLassoSpent depth spent done
EndsDeep depth spent done phases.Refused = Unit {0}

-- what tells of which kind a worker was that has ended
abbrev pub IsEndOfKind : Limits → Circuit → List ℕ → Spendings → Phase → Option ℕ → Type 0
IsEndOfKind limits c properties spent p None = is_deep p ≡ false
IsEndOfKind limits c properties spent p (Some done) =
    (done ≤ limits.depth) × All (λ j. HasNoneWithin c j done) properties × EndsDeep limits.depth spent done p

-- it was worker n of these limits
abbrev pub IsEndNumbered : Limits → ℕ → Option ℕ → Type 0
IsEndNumbered limits n None = n < round_workers limits
IsEndNumbered limits n (Some done) = round_workers limits ≤ n

-- what lasso workers have done, in their order
abbrev pub with_done : Option ℕ → List ℕ → List ℕ
with_done None depths = depths
with_done (Some done) depths = done ∷ depths

abbrev pub depths_of : List WorkerEnd → List ℕ
depths_of [] = []
depths_of (e ∷ ends) = with_done e.done (depths_of ends)

-- A worker is done with the board.
pub record IsDone (task : Task) (b : BoardState) (e : WorkerEnd) : Type 0 where
  pub spent : IsSpentOn task e.spent
  pub tells : Tells b e.spent e.phase
  pub kind : IsEndOfKind task.limits task.circuit task.properties e.spent e.phase e.done

-- All workers of a task are done with its board.
pub record AreDone (task : Task) (b : BoardState) (ends : List WorkerEnd) : Type 0 where
  pub board : IsBoardOf task b
  pub count : length ends ≡ task.limits.workers
  pub each : All (IsDone task b) ends
  pub numbered : (k : ℕ) (d : WorkerEnd) → k < length ends → IsEndNumbered task.limits k (slice_index_or ends k d).done

-- one of them was refused memory
abbrev pub any_refused : List WorkerEnd → Bool
any_refused ends = list_any (λ e. is_refused e.phase) ends
