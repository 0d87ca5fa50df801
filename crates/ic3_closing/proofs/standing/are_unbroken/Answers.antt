use Rattle.std.proofs.Common.{◌∙◌}
use Rattle.edge.proofs.Ends.{counts_on}
use Rattle.entry.specs.CheckedEntries.{viewed}
use Rattle.ic3_closing.proofs.Asked.{one_more}
use Rattle.ic3_closing.proofs.standing.are_unbroken.Goals as goal

pub loop-clause-preserved : goal.loop-clause-preserved
loop-clause-preserved c =
    let before = c.loop-clause.invariant in
    record {
      none = one_more c.args.c.now (viewed c.args._view.now) c.args.part.now.clauses c.as_slice-clause-items.result.now c.args.part.now.uses
          c.loop-clause.clause-index c.loop-clause.solver.added c.clause-item.result _ c.as_slice-clause-items.ensures c.loop-clause-test.true
          before.added c.clause-item.is before.none (c.in_ok-is_unbroken.ensures.unbroken c.if-not-branch.false);
      added = c.in_ok-is_unbroken.ensures.added ∙ before.added;
      counted = counts_on c.args.meter.now c.loop-clause.meter c.is_unbroken.new.meter before.counted c.in_ok-is_unbroken.ensures.counted;
    }
