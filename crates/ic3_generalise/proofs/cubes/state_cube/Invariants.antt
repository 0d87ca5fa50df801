use Rattle.std.proofs.Common.{◌≡◌, ◌++◌, drop}
use Rattle.ic3_generalise.specs.Cubes.{value_literals}
use Rattle.ic3_generalise.proofs.cubes.state_cube.Given as goal

abbrev pub invariant-loop-n : goal.invariant-loop-n
invariant-loop-n l = l.cube ++ value_literals l.n (drop l.n l.values) ≡ value_literals 0 l.values
