use Rattle.ledger_tests.proofs.PassLaws.{begun_own, begun_numbers}
use Rattle.ledger_tests.proofs.reading.begun.Goals as goal

pub returns-clause-own : goal.returns-clause-own
returns-clause-own c = begun_own c.in_ok-new.ensures

pub returns-clause-all : goal.returns-clause-all
returns-clause-all c = begun_numbers c.in_ok-new.ensures
