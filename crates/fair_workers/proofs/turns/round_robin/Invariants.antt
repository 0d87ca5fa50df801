use Rattle.std.proofs.Common.{◌≡◌, ◌<◌, ◌≤◌, true, length}
use Rattle.fair_workers.specs.BoardWorkers.{ServeTask, HaveEnded, task_in, runs_at, left_of}
use Rattle.fair_workers.proofs.turns.round_robin.Given as goal

abbrev pub invariant-loop-k : goal.invariant-loop-k
invariant-loop-k l = record {
  workers : ServeTask (task_in l.task) l.board l.workers;
  within : l.k ≤ length l.workers;
  next : l.k < length l.workers → runs_at l.workers l.k ≡ true;
  over : l.k ≡ length l.workers → HaveEnded l.workers;
}

abbrev pub decreases-loop-k : goal.decreases-loop-k
decreases-loop-k l = left_of l.board l.workers
