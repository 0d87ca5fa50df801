use Rattle.std.proofs.Common.{◌≡◌, drop}
use Rattle.circuit.specs.Evaluation.{with_values}
use Rattle.circuit.proofs.evaluating.put_inputs.Given as goal

abbrev pub invariant-loop-k : goal.invariant-loop-k
invariant-loop-k l = with_values (drop l.k l.variables) (drop l.k l.values) l.out ≡ with_values l.variables l.values l.initial.out
