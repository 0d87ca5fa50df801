use Rattle.std.proofs.Common.{◌≡◌, take}
use Rattle.cdcl_learn.specs.Walking.{marked}
use Rattle.cdcl_learn.proofs.marking.push_marked.Given as goal

abbrev pub invariant-loop-place : goal.invariant-loop-place
invariant-loop-place l = l.clause ≡ marked (take l.place l.marks) (take l.place l.literals)
