use Rattle.ic3_loops.proofs.Lifted.{next_at-get}
use Rattle.ic3_loops.proofs.lifting.next_at.Goals as goal

pub returns : goal.returns
returns c = next_at-get c.args.latches.now c.args.v _ c.requires
