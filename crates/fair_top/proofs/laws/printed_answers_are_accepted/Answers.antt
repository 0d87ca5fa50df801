use Rattle.fair_top.proofs.AsAsked.{verdicts_are_accepted, open_sheets_are_accepted}
use Rattle.fair_top.proofs.laws.printed_answers_are_accepted.Goals as goal

pub returns-clause-verdicts : goal.returns-clause-verdicts
returns-clause-verdicts c = verdicts_are_accepted

pub returns-clause-open_sheets : goal.returns-clause-open_sheets
returns-clause-open_sheets c = open_sheets_are_accepted
