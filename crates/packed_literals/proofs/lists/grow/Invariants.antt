use Rattle.std.proofs.Common.{◌≡◌, ℕ, ◌+◌, ◌-◌, length}
use Rattle.packed_literals.specs.Lists.{list_at}
use Rattle.packed_literals.proofs.lists.grow.Given as goal

abbrev pub invariant-lists : goal.invariant-lists
invariant-lists l = (v : ℕ) → list_at l.rows.items v ≡ list_at l.initial.rows.items v

abbrev pub decreases-lists : goal.decreases-lists
decreases-lists l = l.row + 1 - length l.rows.items
