use Rattle.std.proofs.Common.{get_or}
use Rattle.ternary.proofs.Words.{value-ones_in}
use Rattle.ternary.proofs.lanes.ones_in.Goals as goal

pub returns : goal.returns
returns c = λ k below. value-ones_in (get_or c.args.words 0 0) (get_or c.args.words 1 0) k
