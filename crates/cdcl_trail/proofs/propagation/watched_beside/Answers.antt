use Rattle.cdcl_trail.proofs.VisitLaws.{beside_told}
use Rattle.cdcl_trail.proofs.propagation.watched_beside.Goals as goal

pub returns-in-Some : goal.returns-in-Some
returns-in-Some c = beside_told c.args.watching.now c.args.number c.args.literal c.in-Some.pair c.beside.result c.in-Some.ensures.some c.beside.ensures
