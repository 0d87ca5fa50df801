use Rattle.lasso_join.proofs.Prefixes.{stands-whole}
use Rattle.simulation.proofs.judging.judged_lasso.Goals as goal

pub returns-in-Ok-clause-whole : goal.returns-in-Ok-clause-whole
returns-in-Ok-clause-whole c =
    stands-whole c.args.c.now c.args.j c.in-Some.stimulus c.in-Ok.lasso (rw c.in-Ok.is at c.replay.ensures.found)
    (rw c.in-Ok.is at c.replay.ensures.start) (rw c.in-Ok.is at c.replay.ensures.inputs)
