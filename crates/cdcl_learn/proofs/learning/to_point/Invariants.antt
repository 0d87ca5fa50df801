use Rattle.std.proofs.Common.{◌≡◌, ◌-◌, ◌≤◌, length, reverse}
use Rattle.cdcl_trail.specs.Trails.{literals_of}
use Rattle.cdcl_learn.specs.Walking.{IsConflictCut, marked}
use Rattle.cdcl_learn.proofs.learning.to_point.Given as goal

abbrev pub invariant-back : goal.invariant-back
invariant-back l = record {
  way : IsConflictCut l.clauses l.trail.steps l.start l.place (marked l.marks.marks (literals_of l.trail.steps)) (reverse l.hints.items);
  start : l.marks.start ≡ l.start;
  long : length l.marks.marks ≡ length l.trail.steps;
  above : l.start ≤ l.place;
  below : l.place ≤ length l.trail.steps;
}

abbrev pub decreases-back : goal.decreases-back
decreases-back l = l.place - l.start
