use Rattle.cdcl.proofs.ConditionLaws.{sized_told}
use Rattle.cdcl.proofs.conditions.are_sized.Goals as goal

pub returns : goal.returns
returns c = sized_told c.args.literals.now c.all_sized.result c.all_sized.ensures
