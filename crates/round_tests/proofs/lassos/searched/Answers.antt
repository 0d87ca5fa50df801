use Rattle.lasso_bmc.proofs.Telling.{none_of_none}
use Rattle.round_tests.proofs.lassos.searched.Goals as goal

pub search-found-requires-clause-none : goal.search-found-requires-clause-none
search-found-requires-clause-none c = none_of_none c.args.c.now 0
