use Rattle.certificate.proofs.GoodTrue.{good_is_true}
use Rattle.certificate.proofs.laws.good_answers_are_true.Goals as goal

pub returns : goal.returns
returns c = good_is_true c.args.c.now c.good_lists_grow.ensures c.refutations_leave_no_lasso.ensures.lassos c.no_lasso_means_few_rounds.ensures
