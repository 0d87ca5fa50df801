use Rattle.std.proofs.Common.{◌≡◌, length}
use Rattle.fair_workers.specs.BoardWorkers.{AreWorkers}
use Rattle.fair_workers.proofs.board_workers.fill.Given as goal

abbrev pub invariant-loop-number : goal.invariant-loop-number
invariant-loop-number l = record {
  count : length l.workers.items ≡ l.number;
  workers : AreWorkers l.task.limits l.board l.workers.items;
}
