use Rattle.std.proofs.Common.{◌≤◌, length}
use Rattle.ic3_loops.proofs.obligations.place_of.Given as goal

abbrev pub invariant-places : goal.invariant-places
invariant-places l = l.place ≤ length l.queue

abbrev pub decreases-places : goal.decreases-places
decreases-places l = l.place
