use Rattle.k_live.proofs.Telling.{never-large}
use Rattle.k_live.proofs.deciding.decide.Goals as goal

pub returns-in-Ok-clause-untouched : goal.returns-in-Ok-clause-untouched
returns-in-Ok-clause-untouched c = λ n e. absurd (never-large c.decided-rounds.new.meter c.decided-rounds.result n c.decided-rounds.ensures.end e)
