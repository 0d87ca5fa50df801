use Rattle.fair_workers.specs.Working.{searches_in}
use Rattle.fair_workers.proofs.Turned.{thinks_turn}
use Rattle.fair_workers.proofs.working.search.Goals as goal

pub returns-in-Ok-Post-clause-turns : goal.returns-in-Ok-Post-clause-turns
returns-in-Ok-Post-clause-turns g c =
    let v = c.think.new.worker in
    thinks_turn (searches_in v.phase) (g.L.SharedList.known c.args.shared.now) (g.L.SharedList.known c.post_shared.new.shared) c.args.worker.now v
    c.post_shared.new.worker c.think.ensures.thinks c.post_shared.ensures.turns

pub returns-in-Ok-Finish-clause-turns : goal.returns-in-Ok-Finish-clause-turns
returns-in-Ok-Finish-clause-turns g c =
    let v = c.think.new.worker in
    thinks_turn (searches_in v.phase) (g.L.SharedList.known c.args.shared.now) (g.L.SharedList.known c.finish.new.shared) c.args.worker.now v
    c.finish.new.worker c.think.ensures.thinks c.finish.ensures.turns

pub returns-in-Err-Spent-clause-turns : goal.returns-in-Err-Spent-clause-turns
returns-in-Err-Spent-clause-turns g c =
    let k = g.L.SharedList.known c.args.shared.now in
    let v = c.think.new.worker in
    thinks_turn (searches_in v.phase) k k c.args.worker.now v c.end_spent.new.worker c.think.ensures.thinks c.end_spent.ensures.turns

pub returns-in-Err-Memory-clause-turns : goal.returns-in-Err-Memory-clause-turns
returns-in-Err-Memory-clause-turns g c =
    let k = g.L.SharedList.known c.args.shared.now in
    let v = c.think.new.worker in
    thinks_turn (searches_in v.phase) k k c.args.worker.now v c.end_refused.new.worker c.think.ensures.thinks c.end_refused.ensures.turns
