use Rattle.std.proofs.Common.{◌≡◌, ◌-◌, ◌<◌, true, length, get_or}
use Rattle.fair_workers.specs.BoardWorkers.{ServeTask, task_in, runs_at}
use Rattle.fair_workers.proofs.turns.by_schedule.Given as goal

abbrev pub invariant-loop-at : goal.invariant-loop-at
invariant-loop-at l = record {
  workers : ServeTask (task_in l.task) l.board l.workers;
  due : l.at < length l.schedule → runs_at l.workers (get_or l.schedule l.at 0) ≡ true;
}

abbrev pub decreases-loop-at : goal.decreases-loop-at
decreases-loop-at l = length l.schedule - l.at
