use Rattle.ic3_semantics.proofs.Arenas.{steps_keep}
use Rattle.ic3_semantics.proofs.laws.steps_keep_to_the_arena.Goals as goal

pub returns : goal.returns
returns c = steps_keep
