use Rattle.std.proofs.Common.{◌≤◌, length}
use Rattle.entry.specs.CheckedEntries.{viewed}
use Rattle.wall_store.specs.Scanning.{NoneWithin}
use Rattle.wall_store.proofs.scanning.first_against.Given as goal

abbrev pub invariant-loop-n : goal.invariant-loop-n
invariant-loop-n l = record {
  room : length l.entries ≤ length l.scratch;
  passed : NoneWithin (viewed l.entries) l.skeleton l.low l.n;
}
