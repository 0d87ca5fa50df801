use Rattle.std.proofs.Common.{◌≡◌, drop}
use Rattle.wall_ledger.specs.Shows.{shown_at}
use Rattle.wall_ledger.proofs.marks.shown_in.Given as goal

abbrev pub invariant-loop-mark : goal.invariant-loop-mark
invariant-loop-mark l = shown_at (drop l.mark-index l.marks) l.property ≡ shown_at l.marks l.property
