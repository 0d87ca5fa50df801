use Rattle.std.proofs.Common.{◌≡◌, ◌++◌, drop}
use Rattle.fair_semantics.specs.States.{initial_literals}
use Rattle.ic3_loops.proofs.opening.initial_cube.Given as goal

abbrev pub invariant-loop-n : goal.invariant-loop-n
invariant-loop-n l = l.cube ++ initial_literals l.n (drop l.n l.latches) ≡ initial_literals 0 l.latches
