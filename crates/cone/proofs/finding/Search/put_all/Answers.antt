use Rattle.cone.proofs.Searches.{putting-inside, putting-more, put-all}
use Rattle.cone.proofs.finding.Search.put_all.Goals as goal

pub put-requires : goal.put-requires
put-requires c =
    putting-inside c.args.c.now c.args.j c.args.table.now c.max-limits.ensures.limits c.args.self.now.marks.items c.loop-literal.self.marks.items
    c.loop-literal.self.stack.items c.args.literals.now c.loop-literal.literal-index 0 c.loop-literal.invariant c.requires.asked c.loop-literal-test.true

pub loop-literal-preserved : goal.loop-literal-preserved
loop-literal-preserved c =
    putting-more c.args.c.now c.args.j c.args.table.now c.max-limits.ensures.limits c.args.self.now.marks.items c.loop-literal.self.marks.items
    c.loop-literal.self.stack.items c.args.literals.now c.loop-literal.literal-index 0 c.loop-literal.invariant c.requires.asked c.loop-literal-test.true
    c.put.new.self.marks.items c.put.new.self.stack.items c.in_ok-put.ensures

pub returns-clause-marked : goal.returns-clause-marked
returns-clause-marked c =
    put-all c.args.c.now c.args.j c.args.table.now c.max-limits.ensures.limits c.args.self.now.marks.items c.loop-literal.self.marks.items
    c.loop-literal.self.stack.items c.args.literals.now c.loop-literal.literal-index c.loop-literal.invariant c.loop-literal-test.false
