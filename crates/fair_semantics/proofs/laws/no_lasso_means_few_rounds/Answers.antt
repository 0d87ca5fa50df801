use Rattle.fair_semantics.proofs.Rounds.{few_rounds}
use Rattle.fair_semantics.proofs.laws.no_lasso_means_few_rounds.Goals as goal

pub returns : goal.returns
returns c = few_rounds
