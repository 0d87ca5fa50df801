use Rattle.std.proofs.Common.{◌≡◌, ◌++◌, drop}
use Rattle.fair_round.proofs.pool.append.Given as goal

abbrev pub invariant-loop-position : goal.invariant-loop-position
invariant-loop-position l = l.run.items ++ drop l.position-index l.positions ≡ l.initial.run.items ++ l.positions
