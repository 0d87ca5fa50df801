use Rattle.cdcl_trail.proofs.VisitLaws.{single_from}
use Rattle.cdcl_trail.proofs.choosing.latest_pair.Goals as goal

pub returns-in_default-latest_but-clause-none : goal.returns-in_default-latest_but-clause-none
returns-in_default-latest_but-clause-none c =
    single_from c.args.clause.now c.in-Some.start.now c.latest_but.result c.in_default-latest_but.is c.latest_but.ensures.none
