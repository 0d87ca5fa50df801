use Rattle.std.proofs.Common.{◌≡◌, ℕ, ◌≤◌, false, length, get_or, take}
use Rattle.fair_semantics.specs.Entries.{set_at}
use Rattle.entry.specs.CheckedEntries.{viewed}
use Rattle.entry.proofs.sides.note_sides.Given as goal

abbrev pub invariant-loop-i : goal.invariant-loop-i
invariant-loop-i l = record {
  within : l.i ≤ length l.view;
  room : length l.view ≤ length l.scratch;
  known : (n : ℕ) → get_or (take l.i l.scratch) n false ≡ set_at (take l.i (viewed l.view)) n l.state;
}
