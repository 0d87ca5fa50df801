use Rattle.std.proofs.Common.{◌≡◌, ◌≤◌, map, take, length, vec_len, vec_capacity}
use Rattle.std.specs.List.{All}
use Rattle.fair_workers.specs.Runs.{IsInBudget}
use Rattle.fair_workers.specs.Ends.{end_as}
use Rattle.fair_workers.proofs.board_workers.ends_of.Given as goal

abbrev pub invariant-loop-k : goal.invariant-loop-k
invariant-loop-k l = record {
  ends : l.ends.items ≡ map (λ m. end_as m.worker) (take l.k l.workers);
  within : All (λ e. IsInBudget e.spent) l.ends.items;
  count : vec_len l.ends ≡ l.k;
  room : length l.workers ≤ vec_capacity l.ends;
  last : l.k-end ≡ length l.workers;
}
