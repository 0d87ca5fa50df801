use Rattle.cdcl_trail.proofs.VisitLaws.{two_done}
use Rattle.cdcl_trail.proofs.looking.further.Goals as goal

pub returns-then-clause-eq2 : goal.returns-then-clause-eq2
returns-then-clause-eq2 c =
    two_done c.args.assignment.now.steps c.args.clause.now c.args.falsified c.args.other c.if-clause-eq2.true c.requires.pair c.requires.falsified
