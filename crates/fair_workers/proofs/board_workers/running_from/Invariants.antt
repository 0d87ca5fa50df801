use Rattle.std.proofs.Common.{◌≡◌, ℕ, ◌<◌, ◌≤◌, false}
use Rattle.fair_workers.specs.BoardWorkers.{runs_at}
use Rattle.fair_workers.proofs.board_workers.running_from.Given as goal

abbrev pub invariant-loop-k : goal.invariant-loop-k
invariant-loop-k l = (i : ℕ) → l.from ≤ i → i < l.k → runs_at l.workers i ≡ false
