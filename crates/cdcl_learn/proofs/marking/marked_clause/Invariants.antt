use Rattle.std.proofs.Common.{◌≡◌, ◌-◌, ◌≤◌, length, take}
use Rattle.cdcl_learn.specs.Walking.{marked}
use Rattle.cdcl_learn.proofs.marking.marked_clause.Given as goal

abbrev pub invariant-strides : goal.invariant-strides
invariant-strides l = record {
  same : l.clause ≡ marked (take l.place l.marks) (take l.place l.literals);
  within : l.place ≤ length l.marks;
}

abbrev pub decreases-strides : goal.decreases-strides
decreases-strides l = length l.marks - l.place
