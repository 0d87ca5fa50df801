use Rattle.wall_store.proofs.Behind.{sound_lists_grow}
use Rattle.wall_store.proofs.laws.sound_lists_grow.Goals as goal

pub returns : goal.returns
returns c = sound_lists_grow c.args._c.now
