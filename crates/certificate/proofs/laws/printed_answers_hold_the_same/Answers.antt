use Rattle.certificate.proofs.Printed.{held_is_good, printed_holds}
use Rattle.certificate.proofs.laws.printed_answers_hold_the_same.Goals as goal

pub returns-clause-good : goal.returns-clause-good
returns-clause-good c = held_is_good c.args.c.now

pub returns-clause-same : goal.returns-clause-same
returns-clause-same c = printed_holds c.args.c.now
