use Rattle.certificate.proofs.GoodTrue.{verdicts_agree}
use Rattle.certificate.proofs.laws.good_answers_agree.Goals as goal

pub returns : goal.returns
returns c = verdicts_agree c.args.c.now c.good_answers_are_true.ensures
