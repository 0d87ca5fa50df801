use Rattle.wall_store.proofs.Behind.{outcomes_stay}
use Rattle.wall_store.proofs.laws.outcomes_stay.Goals as goal

pub returns : goal.returns
returns c = outcomes_stay c.args.c.now c.older_views.ensures.refutations
