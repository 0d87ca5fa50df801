use Rattle.fair_top.proofs.Agreeing.{agreed}
use Rattle.fair_top.proofs.laws.runs_agree.Goals as goal

pub returns : goal.returns
returns c = agreed c.ascii_laws.ensures.one_model c.binary_laws.ensures.one_model c.args.c.now c.good_answers_agree.ensures
