use Rattle.std.proofs.Common.{arith}
use Rattle.cdcl_learn.proofs.MarkLaws.{count_small}
use Rattle.cdcl_learn.proofs.marking.Marks.mark.Goals as goal

pub overflow_add-self : goal.overflow_add-self
overflow_add-self c =
    let t = c.self.inside in
    omega (arith, c.self.invariant, c.set.ensures.count, count_small t.start c.set.new.marks.items, c.set.ensures.long, t.marks.ok.0)

pub invariant_of-self : goal.invariant_of-self
invariant_of-self c = omega (arith, c.self.invariant, c.set.ensures.count)
