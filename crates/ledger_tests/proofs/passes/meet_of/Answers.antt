use Rattle.ledger_tests.proofs.PassLaws.{set_numbers}
use Rattle.ledger_tests.proofs.passes.meet_of.Goals as goal

pub returns-clause-front : goal.returns-clause-front
returns-clause-front c =
    set_numbers c.args.front.now c.args.one c.meet.new.one c.index-front-one.result
    c.meet.ensures.numbers.0
