use Rattle.entry.proofs.Valid.{refuted_allows_none, refuted_has_no_lasso}
use Rattle.entry.proofs.laws.refutations_leave_no_lasso.Goals as goal

pub returns-clause-skeletons : goal.returns-clause-skeletons
returns-clause-skeletons c = refuted_allows_none c.args.c.now c.skeleton_clauses_tell.ensures

pub returns-clause-lassos : goal.returns-clause-lassos
returns-clause-lassos c = refuted_has_no_lasso c.args.c.now c.skeleton_clauses_tell.ensures
