use Rattle.std.proofs.Common.{◌≡◌, drop}
use Rattle.ternary.specs.Writing.{with_values3}
use Rattle.ternary.proofs.simulating.put_inputs.Given as goal

abbrev pub invariant-loop-k : goal.invariant-loop-k
invariant-loop-k g l = with_values3 (drop l.k l.variables) (drop l.k l.values) l.out ≡ with_values3 l.variables l.values l.initial.out
