use Rattle.std.proofs.Common.{◌≡◌, ◌+◌, ◌≤◌, ◌++◌, Some, map, length, vec_len, vec_capacity}
use Rattle.std.specs.List.{All}
use Rattle.fair_workers.specs.OnThreads.{HasEnded}
use Rattle.fair_workers.proofs.runners.parted.Given as goal

abbrev pub invariant-loop-number : goal.invariant-loop-number
invariant-loop-number l = record {
  passes : map Some l.passes.items ++ map (λ r. r.pass) l.rest.items ≡ map (λ r. r.pass) l.fn.runners.items;
  ends : map Some l.ends.items ++ map (λ r. r.end) l.rest.items ≡ map (λ r. r.end) l.fn.runners.items;
  each : All HasEnded l.rest.items;
  left : length l.rest.items + l.number ≡ length l.fn.runners.items;
  counts : (vec_len l.passes ≡ l.number) × (vec_len l.ends ≡ l.number);
  room : (vec_len l.fn.runners ≤ vec_capacity l.passes) × (vec_len l.fn.runners ≤ vec_capacity l.ends);
}
