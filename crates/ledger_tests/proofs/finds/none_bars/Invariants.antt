use Rattle.std.proofs.Common.{◌≤◌, length}
use Rattle.entry.specs.CheckedEntries.{viewed}
use Rattle.wall_store.specs.Scanning.{NoneWithin}
use Rattle.ledger_tests.proofs.finds.none_bars.Given as goal

abbrev pub invariant-loop-n : goal.invariant-loop-n
invariant-loop-n l = record {
  room : length l.view ≤ length l.scratch;
  passed : NoneWithin (viewed l.view) l.skeleton 0 l.n;
}
