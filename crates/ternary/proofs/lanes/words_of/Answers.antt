use Rattle.std.proofs.Common.{sym, ◌∙◌}
use Rattle.ternary.proofs.Words.{value-ones, value-possible}
use Rattle.ternary.proofs.lanes.words_of.Goals as goal

pub returns-in-One : goal.returns-in-One
returns-in-One c = λ k below. value-ones k below ∙ sym c.in-One.is

pub returns-in-X : goal.returns-in-X
returns-in-X c = λ k below. value-possible k below ∙ sym c.in-X.is
