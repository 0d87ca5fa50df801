use Rattle.std.proofs.Common.{◌≡◌, ◌++◌, drop}
use Rattle.ternary.specs.Lifting.{literals_from}
use Rattle.ternary.proofs.lifting.cube_of.Given as goal

abbrev pub invariant-loop-i : goal.invariant-loop-i
invariant-loop-i l = l.cube ++ literals_from l.i (drop l.i l.state) ≡ literals_from 0 l.state
