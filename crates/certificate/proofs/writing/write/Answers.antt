use Rattle.certificate.proofs.AddedLines.{entry_added}
use Rattle.certificate.proofs.writing.write.Goals as goal

pub loop-entry-preserved : goal.loop-entry-preserved
loop-entry-preserved c =
    entry_added c.args.j c.loop-entry.entry-index c.args.list.now c.entry-item.result _ _ _
    c.loop-entry-test.true c.entry-item.is c.deref.ensures c.loop-entry.invariant c.in_ok-add_entry.ensures
