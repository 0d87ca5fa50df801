use Rattle.std.proofs.Common.{length, rules}
use Rattle.ic3_loops.proofs.Obliging.{due-parts}
use Rattle.ic3_loops.proofs.obligations.take_open.Goals as goal

pub queue-preserved : goal.queue-preserved
queue-preserved c =
    let parts = due-parts (length c.args.nodes.now.items) c.args.top c.queue.queue.items c.pop.new.self.items c.in-Some.o (search rules) c.queue.invariant in
    c.in_ok-raise.ensures.due (length c.args.nodes.now.items) parts.1.node parts.0
