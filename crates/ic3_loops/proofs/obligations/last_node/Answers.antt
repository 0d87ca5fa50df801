use Rattle.std.proofs.Common.{refl}
use Rattle.ic3_loops.proofs.Obliging.{last-first}
use Rattle.ic3_loops.proofs.obligations.last_node.Goals as goal

pub returns : goal.returns
returns g c =
    last-first (g.S.StepSolver.seen c.args.steps.now) c.args._level c.args._top c.args.literal c.args.position _ c.requires.level c.requires.found refl c.in_ok-cube.ensures
