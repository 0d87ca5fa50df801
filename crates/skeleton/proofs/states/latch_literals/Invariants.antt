use Rattle.std.proofs.Common.{◌≡◌, ◌++◌, map, drop}
use Rattle.cnf_unroll.specs.Numbers.{number}
use Rattle.skeleton.specs.Reading.{state_literals}
use Rattle.skeleton.proofs.states.latch_literals.Given as goal

abbrev pub invariant-loop-i : goal.invariant-loop-i
invariant-loop-i l =
    l.literals ++ state_literals (map (λ latch. number 0 latch.var) (drop l.i l.latches)) (drop l.i l.state)
    ≡ state_literals (map (λ latch. number 0 latch.var) l.latches) l.state
