use Rattle.fair_workers.proofs.LassoTurns.{hand-in-turn, one-more-sought, serves-sought}
use Rattle.fair_workers.proofs.racing.hand_in.Goals as goal

pub finish-requires-clause-turns : goal.finish-requires-clause-turns
finish-requires-clause-turns g c = one-more-sought (g.L.SharedList.known c.args.shared.now) c.args.worker.now c.args._after c.requires.worker

pub finish-requires-clause-served : goal.finish-requires-clause-served
finish-requires-clause-served g c = serves-sought (g.L.SharedList.known c.args.shared.now) c.args.worker.now c.args._after c.requires.worker

pub returns-clause-turns : goal.returns-clause-turns
returns-clause-turns g c =
    hand-in-turn (g.L.SharedList.known c.args.shared.now) (g.L.SharedList.known c.finish.new.self) c.args.worker.now c.args._after c.requires.worker
    c.finish.ensures.finished
