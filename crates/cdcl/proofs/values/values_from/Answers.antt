use Rattle.cdcl.proofs.SearchLaws.{values_more}
use Rattle.cdcl.proofs.values.values_from.Goals as goal

pub loop-literal-preserved : goal.loop-literal-preserved
loop-literal-preserved c =
    values_more c.args.literals.now c.loop-literal.literal-index c.loop-literal.values.items c.put.new.values.items
    c.requires c.loop-literal-test.true c.in_ok-put.ensures c.loop-literal.invariant
