use Rattle.std.proofs.Common.{arith}
use Rattle.lasso_bmc.proofs.Telling.{fewer_too}
use Rattle.lasso_bmc.proofs.searching.search.Goals as goal

pub returns-then-depth-done-clause-searched : goal.returns-then-depth-done-clause-searched
returns-then-depth-done-clause-searched c =
    fewer_too c.args.c.now c.args.j c.args.done c.args.depth c.requires.none (omega (arith, c.if-depth-done.true))
