use Rattle.ternary.proofs.Words.{value-and}
use Rattle.ternary.proofs.lanes.Lanes.and.Goals as goal

pub returns : goal.returns
returns c = λ k below. value-and c.args.self.planes c.args.other.planes k
