use Rattle.fair_workers.specs.BoardWorkers.{task_in}
use Rattle.fair_workers.proofs.Together.{done-all}
use Rattle.fair_workers.proofs.turns.all_turns.Goals as goal

pub returns : goal.returns
returns c =
    done-all (task_in c.args.task.now) c.round_robin-board.result c.round_robin-board.new.workers c.ends_of-ends.result.items
    c.round_robin-board.ensures.workers c.round_robin-board.ensures.over c.ends_of-ends.ensures.ends c.ends_of-ends.ensures.within
