use Rattle.std.proofs.Common.{◌+◌, ◌*◌, length, ap}
use Rattle.cnf_unroll.proofs.LayoutLaws.{constraints-front}
use Rattle.cnf_unroll.proofs.parts.before_constraints.Goals as goal

pub returns : goal.returns
returns c = constraints-front c.args.c.now _ (ap (λ gates. 3 * length gates + 1) c.gates.ensures)
