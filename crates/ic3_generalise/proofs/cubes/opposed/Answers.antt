use Rattle.std.proofs.Common.{rules}
use Rattle.ic3_generalise.proofs.Basing.{opposed-is}
use Rattle.ic3_generalise.proofs.cubes.opposed.Goals as goal

pub returns-then-contains : goal.returns-then-contains
returns-then-contains c =
    opposed-is c.args.starts.now c.args.cube.now c.loop-literal.literal-index _ (search rules) (search rules) (search rules)
