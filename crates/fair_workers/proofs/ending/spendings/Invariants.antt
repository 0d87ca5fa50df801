use Rattle.std.proofs.Common.{◌≡◌, ◌≤◌, map, take, length, vec_len, vec_capacity}
use Rattle.fair_workers.proofs.ending.spendings.Given as goal

abbrev pub invariant-loop-k : goal.invariant-loop-k
invariant-loop-k l = record {
  spent : l.spent.items ≡ map (λ e. e.spent) (take l.k l.ends);
  count : vec_len l.spent ≡ l.k;
  room : length l.ends ≤ vec_capacity l.spent;
  last : l.k-end ≡ length l.ends;
}
