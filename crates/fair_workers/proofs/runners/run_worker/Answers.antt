use Rattle.fair_workers.proofs.Threaded.{goes-through}
use Rattle.fair_workers.proofs.runners.run_worker.Goals as goal

pub returns-clause-through : goal.returns-clause-through
returns-clause-through g c =
    let k = c.args.run.now in
    goes-through k.limits c.args.held.now.ledger.now c.take_turns.new.held.ledger.now c.take_turns.new.held.pass c.take_turns.new.worker
    c.end_of-end.result c.take_turns.ensures.ledger c.take_turns.ensures.goes c.take_turns.ensures.over c.end_of-end.ensures.end c.end_of-end.ensures.within
