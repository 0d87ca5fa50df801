use Rattle.std.proofs.Common.{◌≡◌, ◌++◌, map, take, drop}
use Rattle.wall_ledger.specs.Shows.{covered, shut_one}
use Rattle.wall_ledger.proofs.marks.close_each.Given as goal

abbrev pub invariant-loop-mark : goal.invariant-loop-mark
invariant-loop-mark l =
    l.marks ≡ map (λ m. shut_one (covered l.closing m.property) m) (take l.mark-index l.fn.marks) ++ drop l.mark-index l.fn.marks
