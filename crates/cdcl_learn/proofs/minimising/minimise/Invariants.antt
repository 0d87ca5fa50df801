use Rattle.std.proofs.Common.{◌≡◌, ◌≤◌, length, reverse}
use Rattle.cdcl_trail.specs.Trails.{literals_of}
use Rattle.cdcl_learn.specs.Walking.{IsAtPoint, marked}
use Rattle.cdcl_learn.proofs.minimising.minimise.Given as goal

abbrev pub invariant-back : goal.invariant-back
invariant-back l = record {
  point : IsAtPoint l.clauses l.trail.steps l.start (marked l.resolvent.marks.marks (literals_of l.trail.steps)) (reverse l.resolvent.hints.items);
  long : length l.resolvent.marks.marks ≡ length l.trail.steps;
  below : l.bound ≤ l.start;
}

abbrev pub decreases-back : goal.decreases-back
decreases-back l = l.bound
