use Rattle.std.proofs.Common.{◌≡◌, []}
use Rattle.entry.specs.CheckedEntries.{GoesOnFrom}
use Rattle.ic3_tests.proofs.again.agrees_on_all.Given as goal

abbrev pub invariant-loop-to : goal.invariant-loop-to
invariant-loop-to l = record {
  circuit : l.search.circuit ≡ l.c;
  on : GoesOnFrom l.search.view [];
}
