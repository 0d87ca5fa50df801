use Rattle.std.proofs.Common.{◌≡◌, ℕ, ◌<◌, ◌≤◌, false, get_or}
use Rattle.fair_workers.specs.BoardWorkers.{runs_at}
use Rattle.fair_workers.proofs.board_workers.due.Given as goal

abbrev pub invariant-loop-at : goal.invariant-loop-at
invariant-loop-at l = (i : ℕ) → l.from ≤ i → i < l.at → runs_at l.workers (get_or l.schedule i 0) ≡ false
