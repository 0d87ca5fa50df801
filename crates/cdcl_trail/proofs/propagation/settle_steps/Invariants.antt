use Rattle.std.proofs.Common.{◌+◌, ◌-◌, length}
use Rattle.cdcl_trail.specs.Measure.{unsatisfied}
use Rattle.cdcl_trail.specs.Storing.{held}
use Rattle.cdcl_trail.specs.Visiting.{IsSettling}
use Rattle.cdcl_trail.proofs.propagation.settle_steps.Given as goal

abbrev pub invariant-steps : goal.invariant-steps
invariant-steps l = IsSettling l.fn.watching l.fn.assignment.steps l.watching l.assignment.steps l.count

abbrev pub decreases-steps : goal.decreases-steps
decreases-steps l = unsatisfied (held l.fn.watching) l.assignment.steps + (length l.assignment.steps - l.count)
