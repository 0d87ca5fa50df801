-- Scaffolding of inner functions. A worker on a thread, which has a pass of a ledger, and what it comes to.
use Rattle.std.specs.Prelude.{◌≡◌, ℕ, ◌+◌, ◌*◌, ◌<◌, ◌≤◌, false, List, map, length, slice_index_or, Option, None, Some}
use Rattle.edge.specs.Units.{Spendings, limit_of}
use Rattle.wall_ledger.specs.Passes.{PassState, LedgerState, OwnTurns, new_passes}
use Rattle.wall_ledger.specs.Turns.{IsBegun}
use Rattle.fair_workers.specs.declared.ending.WorkerEnd.{WorkerEnd}
use Rattle.search_reports.specs.declared.limits.Limits.{Limits}
use Rattle.fair_workers.specs.declared.runners.Runner.{Runner}
use Rattle.fair_workers.specs.declared.working.Worker.{Worker}
use Rattle.fair_workers.specs.Runs.{Task, AreLimits, AreServed, ServesOne, IsInBudget, IsWithLimits}
use Rattle.shared_lists.specs.Knowing.{Known}
use Rattle.shared_lists.specs.Holding.{known_by, IsPassOf}
use Rattle.fair_workers.specs.Working.{is_running, left_at_first, searches_left_to, search_steps, steps_through, IsIn, IsNumbered, IsWorker}
use Rattle.fair_workers.specs.Ends.{IsEndOfKind, IsEndNumbered}

-- A pass with which a worker begins: it has seen the given entries and has had no turn, and the list may grow as the
-- limits say.
pub record IsReady (limits : Limits) (properties : List ℕ) (l : LedgerState) (p : PassState) : Type 0 where
  pub pass : IsPassOf l p
  pub same : l.properties ≡ properties
  pub within : AreLimits limits
  pub one : ServesOne limits properties
  pub number : p.number < limits.workers
  pub served : AreServed l.circuit l.properties
  pub list : p.list ≡ l.given
  pub turns : p.turns ≡ 0
  pub grows : l.limit ≤ length l.given + limits.skeletons

-- a meter with these limits that has counted nothing
abbrev pub fresh_meter : Limits → Spendings
fresh_meter limits = record {
  conflicts = 0;
  conflict_limit = limit_of limits.conflicts;
  steps = 0;
  step_limit = limit_of limits.steps;
}

-- how many steps a worker takes at most over a ledger
abbrev pub steps_within : Limits → LedgerState → ℕ
steps_within limits l = (limits.skeletons + length l.properties) * search_steps l.circuit l.properties

-- A worker and its pass between two turns: the steps that it has taken, and those of all searches that are left to it,
-- are within what a worker takes at most.
pub record Goes (limits : Limits) (l : LedgerState) (p : PassState) (w : Worker) : Type 0 where
  pub pass : IsPassOf l p
  pub worker : IsWorker (known_by l p) w
  pub kind : IsNumbered limits p.number w.lasso_search
  pub counted : IsWithLimits limits w.meter
  pub steps :
      steps_through w (searches_left_to (known_by l p) w) (search_steps l.circuit l.properties) ≤ steps_within limits l

-- A worker that has ended took no more turns than it has at most that finds entries; a lasso worker has seen the given entries
-- alone.
abbrev pub HasTurned : Known → Option ℕ → Type 0
HasTurned k None = k.turns ≤ left_at_first k
HasTurned k (Some done) = length k.list ≡ k.given

-- How a worker ended, with its pass: what it then knows, and what it spent.
pub record IsThrough (limits : Limits) (l : LedgerState) (p : PassState) (e : WorkerEnd) : Type 0 where
  pub pass : IsPassOf l p
  pub turns : HasTurned (known_by l p) e.done
  pub kind : IsEndOfKind limits l.circuit l.properties e.spent e.phase e.done
  pub numbered : IsEndNumbered limits p.number e.done
  pub over : is_running e.phase ≡ false
  pub tells : IsIn 0 (known_by l p) e.spent e.phase
  pub counted : IsWithLimits limits e.spent
  pub within : IsInBudget e.spent
  pub steps : e.spent.steps ≤ steps_within limits l

-- a worker that has a pass with which it may begin
abbrev pub MayRun : Limits → List ℕ → LedgerState → Runner → Type 0
MayRun limits properties l r = (p : PassState) × (r.pass ≡ Some p) × IsReady limits properties l p

-- The worker has ended: it has its pass again, and its end is kept.
pub record HasRun (limits : Limits) (l : LedgerState) (r s : Runner) : Type 0 where
  pub pass : PassState
  pub held : s.pass ≡ Some pass
  pub end : WorkerEnd
  pub kept : s.end ≡ Some end
  pub number : (p : PassState) → r.pass ≡ Some p → pass.number ≡ p.number
  pub own : OwnTurns pass
  pub through : IsThrough limits l pass end

-- all of them have
abbrev pub HaveRun : Limits → LedgerState → List Runner → List Runner → Type 0
HaveRun limits l before after =
    (length after ≡ length before)
    × ((k : ℕ) (d : Runner) → k < length before → HasRun limits l (slice_index_or before k d) (slice_index_or after k d))

-- the runner has a pass and an end
abbrev pub HasEnded : Runner → Type 0
HasEnded r = ((p : PassState) × (r.pass ≡ Some p)) × ((e : WorkerEnd) × (r.end ≡ Some e))

-- A ledger for a task, and a runner with each of its passes.
pub record IsBegunFor (task : Task) (l : LedgerState) (runners : List Runner) : Type 0 where
  pub limits : AreLimits task.limits
  pub one : ServesOne task.limits task.properties
  pub served : AreServed task.circuit task.properties
  pub ledger : IsBegun task.circuit task.properties task.limits.workers task.limits.skeletons task.given l (new_passes l 0 task.limits.workers)
  pub passes : map (λ r. r.pass) runners ≡ map Some (new_passes l 0 task.limits.workers)
