-- Scaffolding of inner functions. The workers that take turns over one board, and what a turn leaves of the board.
use Rattle.std.specs.Prelude.{◌≡◌, ℕ, ◌+◌, ◌*◌, ◌<◌, ◌≤◌, Bool, false, List, ◌++◌, map, length, drop, slice_index_or}
use Rattle.std.specs.List.{All, sum_by}
use Rattle.std.specs.Arc.{arc_value}
use Rattle.entry.specs.CheckedEntries.{CheckedEntry}
use Rattle.wall_store.specs.Boards.{BoardState, IsBoard, Ascend, properties_of}
use Rattle.wall_store.specs.Events.{seen_by}
use Rattle.fair_workers.specs.declared.working.Phase.TheVariants as phases
use Rattle.fair_workers.specs.declared.board_workers.BoardWorker.{BoardWorker}
use Rattle.search_reports.specs.declared.limits.Limits.{Limits}
use Rattle.fair_workers.specs.declared.board_workers.RunTask.{RunTask}
use Rattle.fair_workers.specs.Runs.{Task, AreLimits, AreServed, ServesOne, IsByRoundWorker, IsFoundWithin, IsBoardOf, IsWithLimits}
use Rattle.shared_lists.specs.Lending.{known_at, GoesOnBy}
use Rattle.fair_workers.specs.Working.{is_running, left_to, left_at_first, searches_left_to, search_steps, steps_through, IsNumbered, IsWorker, KeepsLimits, StaysOfKind}

-- ---- workers of a board

-- how much is left to do for a worker
abbrev pub left_by : BoardState → BoardWorker → ℕ
left_by b m = left_to (known_at b m.number m.turns) m.worker

abbrev pub searches_left_by : BoardState → BoardWorker → ℕ
searches_left_by b m = searches_left_to (known_at b m.number m.turns) m.worker

-- how many turns a worker of the board has at most
abbrev pub turns_on : BoardState → ℕ
turns_on b = left_at_first (known_at b 0 0)

-- how many steps one search over the board takes at most
abbrev pub steps_on : BoardState → ℕ
steps_on b = search_steps b.circuit (properties_of b.served)

-- A worker over a board.
pub record IsBoardWorker (b : BoardState) (m : BoardWorker) : Type 0 where
  pub number : m.number < b.workers
  pub seen : m.seen ≡ seen_by b m.number
  pub worker : IsWorker (known_at b m.number m.turns) m.worker

-- A turn of a worker.
pub record TakesTurn (b : BoardState) (m : BoardWorker) (c : BoardState) (n : BoardWorker) : Type 0 where
  pub worker : IsBoardWorker c n
  pub board : GoesOnBy m.number m.turns b c
  pub number : n.number ≡ m.number
  pub one : n.turns ≤ m.turns + 1
  pub paid : length c.entries + m.turns ≤ length b.entries + n.turns
  pub kind : StaysOfKind m.worker.lasso_search n.worker.lasso_search
  pub limits : KeepsLimits m.worker.meter n.worker.meter
  pub less : left_by c n < left_by b m
  pub steps :
      steps_through n.worker (searches_left_by c n) (steps_on b) ≤ steps_through m.worker (searches_left_by b m) (steps_on b)

-- What turns leave of a board: entries are added alone, each found in one of the turns that a worker has, and it is what
-- a board is at any time.
pub record Follows (b c : BoardState) : Type 0 where
  pub board : IsBoard c
  pub circuit : c.circuit ≡ b.circuit
  pub properties : properties_of c.served ≡ properties_of b.served
  pub workers : c.workers ≡ b.workers
  pub limit : c.limit ≡ b.limit
  pub given : c.given ≡ b.given
  pub entries : (more : List CheckedEntry) × (c.entries ≡ b.entries ++ more) × All (IsFoundWithin (turns_on b)) more

-- The steps that a worker has taken, and those of all searches that are left to it, are no more than those of a search for
-- each entry by which the list may grow, and for each property.
abbrev pub KeepsWithin : Limits → BoardState → BoardWorker → Type 0
KeepsWithin limits b m =
    steps_through m.worker (searches_left_by b m) (steps_on b) ≤ (limits.skeletons + length (properties_of b.served)) * steps_on b

-- how many turns worker k has taken
abbrev pub turns_at : List BoardWorker → ℕ → ℕ
turns_at workers k = slice_index_or (map (λ m. m.turns) workers) k 0

-- The workers over a board, in the order of their numbers; each found its entries in turns that it has taken, and a lasso
-- worker found none.
pub record AreWorkers (limits : Limits) (b : BoardState) (workers : List BoardWorker) : Type 0 where
  pub numbers : (k : ℕ) → k < length workers → slice_index_or (map (λ m. m.number) workers) k 0 ≡ k
  pub each : All (IsBoardWorker b) workers
  pub kinds : All (λ m. IsNumbered limits m.number m.worker.lasso_search) workers
  pub within : All (λ m. IsWithLimits limits m.worker.meter) workers
  pub steps : All (KeepsWithin limits b) workers
  pub own : (w : ℕ) → Ascend w (drop b.given b.entries) (turns_at workers w)
  pub authors : All (IsByRoundWorker limits) (drop b.given b.entries)

abbrev pub task_in : RunTask → Task
task_in t = record {
  circuit = arc_value t.circuit.now;
  properties = t.properties.now;
  limits = t.limits;
  given = map arc_value t.given.now;
}

-- A board over which workers may begin: each of them has seen it whole, and its entries are all given.
pub record IsFresh (task : Task) (b : BoardState) : Type 0 where
  pub limits : AreLimits task.limits
  pub one : ServesOne task.limits task.properties
  pub properties : properties_of b.served ≡ task.properties
  pub served : AreServed b.circuit (properties_of b.served)
  pub workers : task.limits.workers ≡ b.workers
  pub seen : (n : ℕ) → n < b.workers → seen_by b n ≡ length b.entries
  pub fresh : length b.entries ≡ b.given
  pub grows : b.limit ≤ length b.entries + task.limits.skeletons

-- The workers of a task, and their board.
pub record ServeTask (task : Task) (b : BoardState) (all : List BoardWorker) : Type 0 where
  pub board : IsBoardOf task b
  pub count : length all ≡ task.limits.workers
  pub workers : AreWorkers task.limits b all

-- worker k is there and has not ended
abbrev pub runs_at : List BoardWorker → ℕ → Bool
runs_at workers k = is_running (slice_index_or (map (λ m. m.worker.phase) workers) k phases.Closed)

-- how much is left to do for all
abbrev pub left_of : BoardState → List BoardWorker → ℕ
left_of b workers = sum_by (left_by b) workers

-- all have ended
abbrev pub HaveEnded : List BoardWorker → Type 0
HaveEnded workers = (k : ℕ) → k < length workers → runs_at workers k ≡ false
