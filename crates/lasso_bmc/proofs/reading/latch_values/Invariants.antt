use Rattle.std.proofs.Common.{◌≡◌, map, take}
use Rattle.cdcl.specs.Asking.{assigned}
use Rattle.cnf_unroll.specs.Numbers.{number}
use Rattle.lasso_bmc.proofs.reading.latch_values.Given as goal

abbrev pub invariant-loop-latch : goal.invariant-loop-latch
invariant-loop-latch l = l.bits ≡ map (assigned l.solver.values) (map (λ latch. number l.base latch.var) (take l.latch-index l.latches))
