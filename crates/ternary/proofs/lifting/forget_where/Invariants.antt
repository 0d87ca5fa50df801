use Rattle.std.proofs.Common.{◌≡◌}
use Rattle.ternary.specs.Lifting.{forgotten}
use Rattle.ternary.proofs.lifting.forget_where.Given as goal

abbrev pub invariant-loop-n : goal.invariant-loop-n
invariant-loop-n l = l.state ≡ forgotten l.word l.n l.i l.initial.state
