use Rattle.cnf_unroll.proofs.Readable.{understood}
use Rattle.cnf_unroll.proofs.laws.closed_uses_are_understood.Goals as goal

pub returns : goal.returns
returns c = λ before e plain closed over. understood c.args.c.now before e plain closed over
