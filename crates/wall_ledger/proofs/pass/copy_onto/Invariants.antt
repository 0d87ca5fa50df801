use Rattle.std.proofs.Common.{◌≡◌, ◌+◌, ◌++◌, map, take, length, vec_capacity}
use Rattle.std.specs.Arc.{arc_value}
use Rattle.wall_ledger.proofs.pass.copy_onto.Given as goal

abbrev pub invariant-loop-e : goal.invariant-loop-e
invariant-loop-e l = record {
  same : map arc_value l.entries.items ≡ map arc_value l.fn.entries.items ++ map arc_value (take l.e-index l.tail);
  count : length l.entries.items ≡ length l.fn.entries.items + l.e-index;
  room : vec_capacity l.entries ≡ vec_capacity l.fn.entries;
}
