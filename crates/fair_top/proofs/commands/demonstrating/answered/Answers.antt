use Rattle.std.proofs.Common.{refl}
use Rattle.fair_top.proofs.commands.demonstrating.answered.Goals as goal

pub returns-in-Ok-clause-found : goal.returns-in-Ok-clause-found
returns-in-Ok-clause-found c = (c.args.report.board, refl, c.in-Ok.ensures.sums)
