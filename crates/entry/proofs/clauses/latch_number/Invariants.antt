use Rattle.std.proofs.Common.{◌≡◌, drop}
use Rattle.entry.specs.Clauses.{latch_from}
use Rattle.entry.proofs.clauses.latch_number.Given as goal

abbrev pub invariant-loop-n : goal.invariant-loop-n
invariant-loop-n l = latch_from l.n l.variable (drop l.n l.c.latches) ≡ latch_from 0 l.variable l.c.latches
