use Rattle.std.proofs.Common.{length}
use Rattle.std.specs.List.{All}
use Rattle.ic3_loops.specs.Blocking.{IsDue, levels_left}
use Rattle.ic3_loops.proofs.obligations.take_open.Given as goal

abbrev pub invariant-queue : goal.invariant-queue
invariant-queue l = All (IsDue (length l.nodes.items) l.top) l.queue.items

abbrev pub decreases-queue : goal.decreases-queue
decreases-queue l = levels_left l.top l.queue.items
