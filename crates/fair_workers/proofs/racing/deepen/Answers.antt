use Rattle.fair_workers.proofs.LassoTurns.{seeks_turn}
use Rattle.fair_workers.proofs.racing.deepen.Goals as goal

pub returns-in-Ok-Some-clause-turns : goal.returns-in-Ok-Some-clause-turns
returns-in-Ok-Some-clause-turns g c =
    let k = g.L.SharedList.known c.args.shared.now in
    seeks_turn k (g.L.SharedList.known c.hand_in.new.shared) c.args.after c.args.worker.now c.search.new.worker c.hand_in.new.worker c.requires.phase c.search.ensures.on
    c.hand_in.ensures.turns

pub returns-in-Ok-None-clause-turns : goal.returns-in-Ok-None-clause-turns
returns-in-Ok-None-clause-turns g c =
    let k = g.L.SharedList.known c.args.shared.now in
    seeks_turn k k c.args.after c.args.worker.now c.search.new.worker c.go_deeper.new.worker c.requires.phase c.search.ensures.on
    c.go_deeper.ensures.turns

pub returns-in-Err-Spent-clause-turns : goal.returns-in-Err-Spent-clause-turns
returns-in-Err-Spent-clause-turns g c =
    let k = g.L.SharedList.known c.args.shared.now in
    seeks_turn k k c.args.after c.args.worker.now c.search.new.worker c.end_deep.new.worker c.requires.phase c.search.ensures.on
    c.end_deep.ensures.turns

pub returns-in-Err-Memory-clause-turns : goal.returns-in-Err-Memory-clause-turns
returns-in-Err-Memory-clause-turns g c =
    let k = g.L.SharedList.known c.args.shared.now in
    seeks_turn k k c.args.after c.args.worker.now c.search.new.worker c.end_refused.new.worker c.requires.phase c.search.ensures.on
    c.end_refused.ensures.turns
