use Rattle.std.proofs.Common.{◌≡◌, ◌↔◌, subst}
use Rattle.std.specs.Int.{bit_at}
use Rattle.ternary.specs.Lifting.{AreOne}
use Rattle.ternary.proofs.lifting.lanes_that_pass.Goals as goal

pub returns : goal.returns
returns c =
    λ k below.
    subst (λ xs. (bit_at c.lanes_that_keep.result k ≡ 1) ↔ AreOne xs c.args.keep.now) (c.eval3_lanes.ensures k below) (c.lanes_that_keep.ensures k below)
