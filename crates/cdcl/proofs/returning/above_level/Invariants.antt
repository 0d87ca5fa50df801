use Rattle.cdcl.proofs.AboveLaws.{IsAbove}
use Rattle.cdcl.proofs.returning.above_level.Given as goal

abbrev pub invariant-places : goal.invariant-places
invariant-places l = IsAbove l.target l.trail.steps l.levels l.place

abbrev pub decreases-places : goal.decreases-places
decreases-places l = l.place
