use Rattle.entry.proofs.Valid.{good_lists_grow}
use Rattle.entry.proofs.laws.good_lists_grow.Goals as goal

pub returns : goal.returns
returns c = good_lists_grow c.args.c.now c.obligations_tell.ensures
