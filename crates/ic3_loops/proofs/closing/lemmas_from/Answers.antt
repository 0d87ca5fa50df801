use Rattle.std.proofs.Common.{arith}
use Rattle.ic3_frames.specs.Frames.{frame_at}
use Rattle.ic3_loops.proofs.Closes.{next_level, all_levels}
use Rattle.ic3_loops.proofs.closing.lemmas_from.Goals as goal

pub loop-k-preserved : goal.loop-k-preserved
loop-k-preserved c =
    next_level c.args.frames.now c.loop-k.clauses c.push_own.new.clauses (frame_at c.args.frames.now c.args.level) c.loop-k.k (omega arith)
    c.in_ok-push_own.ensures c.loop-k.invariant

pub returns : goal.returns
returns c =
    all_levels c.args.frames.now c.loop-k.clauses (frame_at c.args.frames.now c.args.level) c.loop-k.k (omega arith) c.loop-k.invariant
