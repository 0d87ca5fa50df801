use Rattle.std.proofs.Common.{◌≡◌, ◌++◌, drop}
use Rattle.skeleton.specs.Reading.{core_cube}
use Rattle.skeleton.proofs.states.core_cube.Given as goal

abbrev pub invariant-loop-number : goal.invariant-loop-number
invariant-loop-number l = l.cube ++ core_cube l.core l.number (drop l.number l.assumptions) ≡ core_cube l.core 0 l.assumptions
