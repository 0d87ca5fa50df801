use Rattle.std.proofs.Common.{◌≡◌, take}
use Rattle.cnf_unroll.specs.Obligations.{units, broken_literals}
use Rattle.entry.proofs.judge.broken_clauses.Given as goal

abbrev pub invariant-loop-literal : goal.invariant-loop-literal
invariant-loop-literal l = l.more.items ≡ units (broken_literals l.c (take l.literal-index l.clause))
