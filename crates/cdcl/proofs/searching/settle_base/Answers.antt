use Rattle.cdcl.proofs.WayLaws.{held_back, held_settled}
use Rattle.cdcl.proofs.searching.settle_base.Goals as goal

pub returns-in_err-begin-clause-trail : goal.returns-in_err-begin-clause-trail
returns-in_err-begin-clause-trail c =
    held_back c.args.log.now.clauses c.args.trail.now c.back_to.new.self c.requires c.back_to.ensures.watch.taken c.back_to.ensures.steps

pub returns-clause-trail : goal.returns-clause-trail
returns-clause-trail c =
    held_settled c.args.log.now.clauses c.clauses-2.result.now.clauses c.back_to.new.self c.propagate.new.self
    (held_back c.args.log.now.clauses c.args.trail.now c.back_to.new.self c.requires c.back_to.ensures.watch.taken c.back_to.ensures.steps)
    c.clauses-2.ensures c.propagate.ensures.reasons c.propagate.ensures.extends
