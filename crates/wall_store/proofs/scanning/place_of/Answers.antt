use Rattle.wall_store.proofs.Serving.{inside_at}
use Rattle.wall_store.proofs.scanning.place_of.Goals as goal

pub returns-clause-inside : goal.returns-clause-inside
returns-clause-inside c = inside_at c.args.served.now c.args.property c.place_in.result c.requires c.place_in.ensures
