use Rattle.std.proofs.Common.{refl}
use Rattle.cnf_unroll.proofs.LayoutLaws.{gates-front}
use Rattle.cnf_unroll.proofs.parts.before_gate.Goals as goal

pub returns : goal.returns
returns c = gates-front c.args.c.now c.args.i _ c.requires refl
