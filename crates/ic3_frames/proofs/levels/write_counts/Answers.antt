use Rattle.std.proofs.Common.{arith}
use Rattle.ic3_frames.proofs.Steps.{counts-more}
use Rattle.ic3_frames.proofs.levels.write_counts.Goals as goal

pub loop-k-preserved : goal.loop-k-preserved
loop-k-preserved c =
    counts-more c.args.levels.now c.loop-k.counts c.loop-k.k c.len.result c.index-levels-k.result c.index-levels-k.is c.loop-k-test.true
    (omega arith) c.len.ensures.len c.loop-k.invariant
