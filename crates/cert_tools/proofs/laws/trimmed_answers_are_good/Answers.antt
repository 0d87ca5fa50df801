use Rattle.cert_tools.proofs.TrimmedLaws.{trimmed_good, trimmed_stays}
use Rattle.cert_tools.proofs.TrimmedOne.{trimmed_one}
use Rattle.cert_tools.proofs.HeldOne.{one_held}
use Rattle.cert_tools.proofs.laws.trimmed_answers_are_good.Goals as goal

pub returns-clause-good : goal.returns-clause-good
returns-clause-good c = trimmed_good c.args.c.now

pub returns-clause-again : goal.returns-clause-again
returns-clause-again c = trimmed_stays c.args.c.now

pub returns-clause-one : goal.returns-clause-one
returns-clause-one c = trimmed_one c.args.c.now

pub returns-clause-held : goal.returns-clause-held
returns-clause-held c = one_held c.args.c.now
