use Rattle.std.proofs.Common.{◌≡◌, map, take}
use Rattle.wall_ledger.specs.Shows.{blank_shown}
use Rattle.wall_ledger.proofs.making.blank_for.Given as goal

abbrev pub invariant-loop-j : goal.invariant-loop-j
invariant-loop-j l = l.marks.items ≡ map blank_shown (take l.j-index l.properties)
