use Rattle.std.proofs.Common.{refl}
use Rattle.fair_workers.specs.declared.working.Phase.TheVariants.{Spent}
use Rattle.fair_workers.proofs.Turned.{stop-turn}
use Rattle.fair_workers.proofs.working.end_spent.Goals as goal

pub returns-clause-turns : goal.returns-clause-turns
returns-clause-turns g c =
    stop-turn (g.L.SharedList.known c.args.shared.now) c.args.worker.now Spent c.requires.worker c.requires.running refl refl c.requires.spent
