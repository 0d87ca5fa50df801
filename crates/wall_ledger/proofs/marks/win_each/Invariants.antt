use Rattle.std.proofs.Common.{◌≡◌, ◌++◌, map, take, drop}
use Rattle.wall_ledger.specs.Shows.{crown_one}
use Rattle.wall_ledger.proofs.marks.win_each.Given as goal

abbrev pub invariant-loop-mark : goal.invariant-loop-mark
invariant-loop-mark l = l.marks ≡ map (crown_one l.property) (take l.mark-index l.fn.marks) ++ drop l.mark-index l.fn.marks
