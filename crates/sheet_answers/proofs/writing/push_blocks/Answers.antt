use Rattle.sheet_answers.proofs.AddedBlocks.{block_added}
use Rattle.sheet_answers.proofs.writing.push_blocks.Goals as goal

pub loop-n-preserved : goal.loop-n-preserved
loop-n-preserved c =
    block_added c.loop-n.n c.args.blocks.now c.index-blocks-n.result c.args.text.now.items c.loop-n.text.items c.push_block.new.text.items
    c.loop-n-test.true c.index-blocks-n.is c.loop-n.invariant c.in_ok-push_block.ensures
