use Rattle.std.proofs.Common.{false, arith}
use Rattle.std.proofs.lemmas.List.{ext_get_or}
use Rattle.circuit_tests.proofs.fitting.check_same.Goals as goal

pub returns : goal.returns
returns c = ext_get_or false c.args.a.now c.args.b.now (omega arith) (λ i below. c.loop-k.invariant i (omega arith))
