use Rattle.std.proofs.Common.{◌+◌, ◌*◌, length, ap₂}
use Rattle.cnf_unroll.proofs.LayoutLaws.{latches-front}
use Rattle.cnf_unroll.proofs.parts.before_latch.Goals as goal

pub returns : goal.returns
returns c =
    latches-front c.args.c.now c.args.i _ c.requires
    (ap₂ (λ gates constraints. 3 * length gates + 1 + length constraints + 2 * c.args.i) c.gates.ensures c.constraints.ensures)
