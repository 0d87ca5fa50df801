use Rattle.std.proofs.Common.{subst}
use Rattle.cdcl.specs.Finding.{MayRefuse}
use Rattle.cdcl.proofs.refuting.refuted_of.Goals as goal

pub core_refuted-requires-clause-refuses : goal.core_refuted-requires-clause-refuses
core_refuted-requires-clause-refuses c = subst (MayRefuse c.args.log.now.clauses c.args.units.now) c.in-Refused.is c.requires.refuses
