use Rattle.std.proofs.Common.{rules, ◌≡◌, length}
use Rattle.fair_workers.specs.BoardWorkers.{task_in}
use Rattle.fair_workers.proofs.Together.{workers-on}
use Rattle.fair_workers.proofs.turns.round_robin.Goals as goal

pub loop-k-preserved : goal.loop-k-preserved
loop-k-preserved c =
    let size : length c.turn_of-board.new.workers ≡ length c.loop-k.workers = search rules in
    record {
      workers = workers-on (task_in c.args.task.now) c.loop-k.board
          c.turn_of-board.result c.loop-k.workers c.turn_of-board.new.workers c.loop-k.invariant.workers c.turn_of-board.ensures.follows
          c.turn_of-board.ensures.workers size;
      within = c.next_running-k-in-loop-k.ensures.high;
      next = c.next_running-k-in-loop-k.ensures.found;
      over = c.next_running-k-in-loop-k.ensures.over;
    }
