use Rattle.std.proofs.Common.{[]}
use Rattle.cone.specs.Finding.{IsSearch, KeepsMarks, steps_left}
use Rattle.cone.proofs.finding.Search.finish.Given as goal

abbrev pub invariant-loop-v : goal.invariant-loop-v
invariant-loop-v l =
    IsSearch l.c l.j l.table l.self.marks.items l.self.stack.items [] × KeepsMarks l.initial.self.marks.items l.self.marks.items

abbrev pub decreases-loop-v : goal.decreases-loop-v
decreases-loop-v l = steps_left l.self.marks.items l.self.stack.items
