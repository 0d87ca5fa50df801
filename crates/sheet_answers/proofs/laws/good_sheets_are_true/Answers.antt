use Rattle.sheet_answers.proofs.TrueSheets.{sheets_true, texts_true}
use Rattle.sheet_answers.proofs.laws.good_sheets_are_true.Goals as goal

pub returns-clause-each : goal.returns-clause-each
returns-clause-each c = sheets_true c.args.c.now c.good_lists_grow.ensures c.refutations_leave_no_lasso.ensures.lassos c.no_lasso_means_few_rounds.ensures

pub returns-clause-shown : goal.returns-clause-shown
returns-clause-shown c =
    texts_true c.args.c.now (sheets_true c.args.c.now c.good_lists_grow.ensures c.refutations_leave_no_lasso.ensures.lassos c.no_lasso_means_few_rounds.ensures)
