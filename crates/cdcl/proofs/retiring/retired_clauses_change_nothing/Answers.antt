use Rattle.cdcl.proofs.RetiringLaws.{retired_change_nothing}
use Rattle.cdcl.proofs.retiring.retired_clauses_change_nothing.Goals as goal

pub returns : goal.returns
returns c = retired_change_nothing
