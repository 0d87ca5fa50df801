use Rattle.std.proofs.Common.{◌≡◌, ◌+◌, ℕ, take, length}
use Rattle.entry.specs.Clauses.{latch_from}
use Rattle.entry.specs.LatchTables.{number_in}
use Rattle.entry.proofs.tables.table_of.Given as goal

abbrev pub invariant-loop-n : goal.invariant-loop-n
invariant-loop-n l = record {
  size : length l.table.items ≡ l.c.max + 1;
  numbers : (v : ℕ) → number_in l.table.items v ≡ latch_from 0 v (take l.n l.c.latches);
}
