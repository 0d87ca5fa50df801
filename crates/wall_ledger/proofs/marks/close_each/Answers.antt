use Rattle.std.proofs.Common.{◌+◌, arith}
use Rattle.wall_ledger.specs.Shows.{covered, shut_one}
use Rattle.wall_ledger.proofs.Showing.{mapped_step}
use Rattle.wall_ledger.proofs.marks.close_each.Goals as goal

pub loop-mark-preserved : goal.loop-mark-preserved
loop-mark-preserved c =
    mapped_step (λ m. shut_one (covered c.args.closing m.property) m) c.args.marks.now c.loop-mark.marks c.loop-mark.mark-index (c.loop-mark.mark-index + 1)
    c.closed.result _ c.loop-mark.invariant c.loop-mark-test.true (omega arith) c.closed.ensures
