use Rattle.std.proofs.Common.{◌-◌, length}
use Rattle.cdcl_trail.specs.Visiting.{AreSettling}
use Rattle.cdcl_trail.proofs.propagation.settle_singles.Given as goal

abbrev pub invariant-singles : goal.invariant-singles
invariant-singles l = AreSettling l.watching l.fn.assignment.steps l.fn.count l.assignment.steps l.count

abbrev pub decreases-singles : goal.decreases-singles
decreases-singles l = length l.watching.singles.items - l.count
