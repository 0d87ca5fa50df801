use Rattle.ic3_semantics.proofs.Separated.{separated}
use Rattle.ic3_semantics.proofs.laws.separated_goals_are_not_reached.Goals as goal

pub returns : goal.returns
returns c = separated
