use Rattle.cone.proofs.Searches.{IsPutting}
use Rattle.cone.proofs.finding.Search.put_all.Given as goal

abbrev pub invariant-loop-literal : goal.invariant-loop-literal
invariant-loop-literal l = IsPutting l.c l.j l.table l.initial.self.marks.items l.literals l.self.marks.items l.self.stack.items l.literal-index
