use Rattle.std.proofs.Common.{◌+◌, ◌==◌, get_or}
use Rattle.ternary.specs.declared.values.Value3.TheVariants.{X}
use Rattle.ternary.specs.Lifting.{hidden_one}
use Rattle.ternary.proofs.Ahead.{HasLanes}
use Rattle.ternary.proofs.lifting.put_alone.Given as goal

abbrev pub invariant-loop-v : goal.invariant-loop-v
invariant-loop-v l = HasLanes (λ k w. hidden_one 1 ((l.i + k) == w) (get_or l.state w X)) l.ahead l.v
