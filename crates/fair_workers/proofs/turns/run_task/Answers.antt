use Rattle.std.proofs.Common.{List, sym, subst}
use Rattle.wall_store.specs.Boards.{BoardState}
use Rattle.fair_workers.specs.declared.board_workers.BoardWorker.{BoardWorker}
use Rattle.fair_workers.specs.Runs.{Task}
use Rattle.fair_workers.specs.BoardWorkers.{ServeTask, task_in}
use Rattle.fair_workers.proofs.Together.{serve-first, fresh-of}
use Rattle.fair_workers.proofs.turns.run_task.Goals as goal

pub workers_on-requires : goal.workers_on-requires
workers_on-requires c =
    fresh-of c.in_ok-board.board (task_in c.args.task.now) c.in_ok-board.ensures c.requires.served c.requires.limits c.requires.one

pub all_turns-board-requires-clause-workers : goal.all_turns-board-requires-clause-workers
all_turns-board-requires-clause-workers c =
    let task : Task = task_in c.args.task.now in
    let board : BoardState = c.in_ok-board.board in
    subst (λ (workers : List BoardWorker). ServeTask task board workers) (sym c.deref_mut.ensures.value)
    (serve-first board task c.in_ok-workers.workers.items c.in_ok-board.ensures c.holds.ensures c.in_ok-workers.ensures.count c.in_ok-workers.ensures.workers)
