use Rattle.std.proofs.Common.{◌≡◌, ◌++◌, map, drop, length}
use Rattle.entry.specs.CheckedEntries.{viewed}
use Rattle.ic3_questions.specs.SteppingClauses.{own_use, own_uses}
use Rattle.ic3_questions.proofs.Restricting.{restricting_from}
use Rattle.ic3_questions.proofs.stepping_sides.own_uses.Given as goal

abbrev pub invariant-loop-i : goal.invariant-loop-i
invariant-loop-i l =
    (l.uses ++ map (own_use (viewed l.view) l.start) (restricting_from l.start l.i (viewed (drop l.i l.view))) ≡ own_uses (viewed l.view) l.start)
    × (length l.scratch.items ≡ length l.view)
