use Rattle.sheet_answers.proofs.AddedBlocks.{entry_added}
use Rattle.sheet_answers.proofs.writing.push_entries.Goals as goal

pub loop-entry-preserved : goal.loop-entry-preserved
loop-entry-preserved c =
    entry_added c.loop-entry.entry-index c.args.list.now c.entry-item.result _ _ _ _
    c.loop-entry-test.true c.entry-item.is c.deref.ensures c.loop-entry.invariant c.in_ok-add_entry.ensures
