use Rattle.fair_workers.proofs.LassoTurns.{spent-turn}
use Rattle.fair_workers.proofs.racing.end_deep.Goals as goal

pub returns-clause-turns : goal.returns-clause-turns
returns-clause-turns g c =
    spent-turn (g.L.SharedList.known c.args.shared.now) c.args.worker.now c.args._after c.requires.worker c.requires.spent
