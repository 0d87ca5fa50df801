use Rattle.std.proofs.Common.{◌≡◌, ◌≤◌, take, length, vec_len, vec_capacity}
use Rattle.fair_workers.specs.Ends.{depths_of}
use Rattle.fair_workers.proofs.ending.depths.Given as goal

abbrev pub invariant-loop-k : goal.invariant-loop-k
invariant-loop-k l = record {
  depths : l.done.items ≡ depths_of (take l.k l.ends);
  count : vec_len l.done ≤ l.k;
  room : length l.ends ≤ vec_capacity l.done;
  last : l.k-end ≡ length l.ends;
}
