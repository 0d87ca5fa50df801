use Rattle.std.proofs.Common.{◌-◌, length}
use Rattle.cdcl_trail.specs.TracksOf.{IsTaking}
use Rattle.cdcl_trail.proofs.trail.Trail.take_all.Given as goal

abbrev pub invariant-takes : goal.invariant-takes
invariant-takes l = IsTaking l.fn.self.steps l.fn.self.taken l.clauses l.self.steps l.self.taken l.place

abbrev pub decreases-takes : goal.decreases-takes
decreases-takes l = length l.clauses - l.place
