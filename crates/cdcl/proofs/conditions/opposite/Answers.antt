use Rattle.std.proofs.Common.{sym, ◌∙◌}
use Rattle.cdcl.proofs.AscendingLaws.{ascending_apart}
use Rattle.cdcl.proofs.conditions.opposite.Goals as goal

pub returns-then-ascends_below-clause-none : goal.returns-then-ascends_below-clause-none
returns-then-ascends_below-clause-none c =
    ascending_apart _ 0 c.args.literals.now (sym c.ascends_below.ensures ∙ c.if-ascends_below.true)
