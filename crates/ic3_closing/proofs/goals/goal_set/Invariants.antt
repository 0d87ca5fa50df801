use Rattle.std.proofs.Common.{◌≡◌, take}
use Rattle.ic3_closing.specs.Goals.{goal_set}
use Rattle.ic3_closing.proofs.goals.goal_set.Given as goal

abbrev pub invariant-loop-clause : goal.invariant-loop-clause
invariant-loop-clause l = l.set ≡ take l.clause-index l.clauses

abbrev pub invariant-loop-cube : goal.invariant-loop-cube
invariant-loop-cube l = l.set ≡ goal_set l.clauses (take l.cube-index l.avoid)
