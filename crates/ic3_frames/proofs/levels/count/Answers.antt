use Rattle.std.proofs.Common.{arith}
use Rattle.ic3_frames.proofs.Steps.{spent-frame}
use Rattle.ic3_frames.proofs.levels.count.Goals as goal

pub frame-requires : goal.frame-requires
frame-requires c =
    spent-frame c.args.levels.now c.write_counts.new.counts (omega arith) c.requires.two c.requires.differ c.write_counts.ensures
