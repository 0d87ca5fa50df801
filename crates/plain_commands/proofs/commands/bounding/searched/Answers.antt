use Rattle.lasso_bmc.proofs.Telling.{none_of_none}
use Rattle.plain_commands.proofs.commands.bounding.searched.Goals as goal

pub search-requires-clause-none : goal.search-requires-clause-none
search-requires-clause-none c = none_of_none c.args.circuit.now c.args.request.now.property
