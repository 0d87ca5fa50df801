use Rattle.std.proofs.Common.{◌≡◌, take}
use Rattle.entry.proofs.list.clauses_again.Given as goal

abbrev pub invariant-loop-clause : goal.invariant-loop-clause
invariant-loop-clause l = l.copy ≡ take l.clause-index l.set
