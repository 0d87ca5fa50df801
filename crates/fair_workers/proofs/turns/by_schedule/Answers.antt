use Rattle.std.proofs.Common.{rules, ◌≡◌, length}
use Rattle.fair_workers.specs.BoardWorkers.{task_in}
use Rattle.fair_workers.proofs.Together.{workers-on}
use Rattle.fair_workers.proofs.turns.by_schedule.Goals as goal

pub loop-at-preserved : goal.loop-at-preserved
loop-at-preserved c =
    let size : length c.turn_of-board.new.workers ≡ length c.loop-at.workers = search rules in
    record {
      workers = workers-on (task_in c.args.task.now) c.loop-at.board
          c.turn_of-board.result c.loop-at.workers c.turn_of-board.new.workers c.loop-at.invariant.workers c.turn_of-board.ensures.follows
          c.turn_of-board.ensures.workers size;
      due = c.due-at-in-loop-at.ensures.found;
    }
