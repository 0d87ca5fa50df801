use Rattle.entry.proofs.Standing.{stand_on, closed_uses_stand, refutations_stay}
use Rattle.entry.proofs.laws.older_views.Goals as goal

pub returns-clause-stand : goal.returns-clause-stand
returns-clause-stand c = stand_on

pub returns-clause-uses : goal.returns-clause-uses
returns-clause-uses c = closed_uses_stand

pub returns-clause-refutations : goal.returns-clause-refutations
returns-clause-refutations c = refutations_stay c.args._c.now
