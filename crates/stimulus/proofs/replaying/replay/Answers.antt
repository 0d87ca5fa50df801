use Rattle.stimulus.proofs.FaultLemmas.{replays_every, replays_fault}
use Rattle.stimulus.proofs.replaying.replay.Goals as goal

pub returns-clause-every : goal.returns-clause-every
returns-clause-every c = replays_every c.find_lasso.result c.args.c.now c.args.j c.args.s.now c.find_lasso.ensures.fault

pub returns-clause-fault : goal.returns-clause-fault
returns-clause-fault c = replays_fault c.find_lasso.result c.args.c.now c.args.j c.args.s.now c.find_lasso.ensures.found c.find_lasso.ensures.fault
