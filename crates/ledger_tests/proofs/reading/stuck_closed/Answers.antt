use Rattle.ledger_tests.proofs.PassLaws.{all_by_numbers}
use Rattle.ledger_tests.proofs.reading.stuck_closed.Goals as goal

pub close-requires-clause-all : goal.close-requires-clause-all
close-requires-clause-all c = all_by_numbers c.args.all.ledger c.args.all.passes.items c.args.all.all
