use Rattle.std.proofs.Common.{◌∙◌}
use Rattle.cdcl.proofs.OppositeLaws.{opposite_told}
use Rattle.cdcl.proofs.conditions.has_opposites.Goals as goal

pub returns : goal.returns
returns c =
    c.is_some.ensures
    ∙ opposite_told c.args.literals.now c.opposite.result c.opposite.ensures.one c.opposite.ensures.other c.opposite.ensures.none
