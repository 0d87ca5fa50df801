use Rattle.std.proofs.Common.{◌-◌, length}
use Rattle.packed_literals.specs.Lists.{list_for}
use Rattle.cdcl_trail.specs.Visiting.{IsVisiting}
use Rattle.cdcl_trail.proofs.propagation.visit_all.Given as goal

abbrev pub invariant-entries : goal.invariant-entries
invariant-entries l = IsVisiting l.fn.watching l.fn.assignment.steps l.watching l.assignment.steps l.falsified l.place

abbrev pub decreases-entries : goal.decreases-entries
decreases-entries l = length (list_for l.watching.lists l.falsified) - l.place
