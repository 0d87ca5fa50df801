use Rattle.std.proofs.Common.{◌≡◌, ◌++◌, drop}
use Rattle.cnf_unroll.specs.Lending.{lent_all}
use Rattle.entry.specs.CheckedEntries.{viewed}
use Rattle.ic3_semantics.specs.Arenas.{restricting}
use Rattle.ic3_questions.proofs.Restricting.{restricting_from}
use Rattle.ic3_questions.proofs.stepping_sides.used.Given as goal

abbrev pub invariant-loop-i : goal.invariant-loop-i
invariant-loop-i l = lent_all l.used ++ restricting_from l.start l.i (viewed (drop l.i l.view)) ≡ restricting l.start (viewed l.view)
