use Rattle.certificate.proofs.EachEnd.{each_has_end}
use Rattle.certificate.proofs.OneEnd.{one_is_good, good_has_no_fault, one_refusal}
use Rattle.certificate.proofs.laws.answers_have_one_end.Goals as goal

pub returns-clause-each : goal.returns-clause-each
returns-clause-each c = each_has_end c.args.c.now

pub returns-clause-good : goal.returns-clause-good
returns-clause-good c = one_is_good c.args.c.now

pub returns-clause-apart : goal.returns-clause-apart
returns-clause-apart c = good_has_no_fault c.args.c.now

pub returns-clause-refused : goal.returns-clause-refused
returns-clause-refused c = one_refusal c.args.c.now
