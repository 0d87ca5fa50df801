use Rattle.std.proofs.Common.{◌≡◌, ◌≤◌, length}
use Rattle.cdcl_trail.specs.Trails.{level, up_to_level}
use Rattle.cdcl_trail.proofs.assignment.Assignment.back_to.Given as goal

-- to go back from here gives the answer
abbrev pub invariant-steps : goal.invariant-steps
invariant-steps l = record {
  answer : up_to_level l.target l.self.steps ≡ up_to_level l.target l.initial.self.steps;
  above : l.target ≤ level l.self.steps;
}

abbrev pub decreases-steps : goal.decreases-steps
decreases-steps l = length l.self.steps
