use Rattle.std.proofs.Common.{◌≡◌, ◌≤◌, map, take, vec_len, vec_capacity}
use Rattle.std.specs.Arc.{arc_value}
use Rattle.wall_store.proofs.making.put_all.Given as goal

abbrev pub invariant-loop-e : goal.invariant-loop-e
invariant-loop-e l = record {
  same : map arc_value l.entries.items ≡ map arc_value (take l.e-index l.given);
  count : vec_len l.entries ≡ l.e-index;
  room : vec_capacity l.entries ≡ vec_capacity l.initial.entries;
}
