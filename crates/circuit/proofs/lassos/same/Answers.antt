use Rattle.std.proofs.Common.{false, refl, arith}
use Rattle.std.proofs.lemmas.List.{ext_get_or}
use Rattle.circuit.proofs.lassos.same.Goals as goal

pub returns : goal.returns
returns c = (
  λ _. ext_get_or false c.args.a.now c.args.b.now c.requires (λ i below. c.loop-k.invariant i (omega arith)),
  λ _. refl,
)
