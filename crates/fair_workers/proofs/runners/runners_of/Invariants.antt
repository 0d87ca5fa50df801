use Rattle.std.proofs.Common.{◌≡◌, ◌+◌, ◌≤◌, ◌++◌, Some, map, length, vec_len, vec_capacity}
use Rattle.fair_workers.proofs.runners.runners_of.Given as goal

abbrev pub invariant-loop-number : goal.invariant-loop-number
invariant-loop-number l = record {
  passes : map (λ r. r.pass) l.runners.items ++ map Some l.rest.items ≡ map Some l.fn.passes.items;
  left : length l.rest.items + l.number ≡ length l.fn.passes.items;
  count : vec_len l.runners ≡ l.number;
  room : vec_len l.fn.passes ≤ vec_capacity l.runners;
}
