use Rattle.std.proofs.Common.{◌≡◌, map, take}
use Rattle.cdcl.specs.Asking.{assigned}
use Rattle.cnf_unroll.specs.Numbers.{number}
use Rattle.lasso_bmc.proofs.reading.input_values.Given as goal

abbrev pub invariant-loop-input : goal.invariant-loop-input
invariant-loop-input l = l.bits ≡ map (λ i. assigned l.solver.values (number l.base i)) (take l.input-index l.inputs)
