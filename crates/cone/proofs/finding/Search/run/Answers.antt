use Rattle.std.proofs.Common.{[]}
use Rattle.cone.specs.Cones.{AreMarksOf}
use Rattle.cone.specs.Finding.{IsSearch, KeepsMarks}
use Rattle.cone.proofs.Searches.{fairness-asked, constraints-asked, ends, both}
use Rattle.cone.proofs.finding.Search.run.Goals as goal

pub put_all-requires-2-clause-asked : goal.put_all-requires-2-clause-asked
put_all-requires-2-clause-asked c = fairness-asked c.args.c.now c.args.j c.args.table.now c.fairness.result.now c.fairness.ensures

pub put_all-requires-3-clause-asked : goal.put_all-requires-3-clause-asked
put_all-requires-3-clause-asked c = constraints-asked c.args.c.now c.args.j c.args.table.now c.constraints.result.now c.constraints.ensures

pub returns : goal.returns
returns c =
    both c.finish.result
    (IsSearch c.args.c.now c.args.j c.args.table.now c.finish.new.self.marks.items [] [])
    (KeepsMarks c.put_all-3.new.self.marks.items c.finish.new.self.marks.items)
    (AreMarksOf c.args.c.now c.args.j c.finish.new.self.marks.items)
    (λ search keeps.
    ends c.args.c.now c.args.j c.args.table.now c.put_all.new.self.marks.items c.put_all-2.new.self.marks.items c.put_all-3.new.self.marks.items
    c.finish.new.self.marks.items c.property_of.result.now c.fairness.result.now c.constraints.result.now
    c.requires.table c.property_of.ensures c.fairness.ensures c.constraints.ensures
    c.in_ok-put_all.ensures.marked c.in_ok-put_all-2.ensures.keeps c.in_ok-put_all-2.ensures.marked
    c.in_ok-put_all-3.ensures.keeps c.in_ok-put_all-3.ensures.marked keeps search)
    c.finish.ensures.search c.finish.ensures.keeps
