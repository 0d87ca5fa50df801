use Rattle.ic3_loops.proofs.Excluded.{asked-exactly, asked-part, asked-passing}
use Rattle.ic3_loops.proofs.shortening.LevelTestAsker.excluded.Goals as goal

pub returns-clause-exactly : goal.returns-clause-exactly
returns-clause-exactly g c =
    asked-exactly c.args.self.now.starts.now (g.S.StepSolver.seen c.args.self.now.steps.now) c.args.self.now.level c.args.cube.now c.inductive_part.result c.inductive_part.ensures.asked

pub returns-clause-part : goal.returns-clause-part
returns-clause-part g c =
    asked-part c.args.self.now.starts.now (g.S.StepSolver.seen c.args.self.now.steps.now) c.args.self.now.level c.args.cube.now c.inductive_part.result c.inductive_part.ensures.asked

pub returns-clause-passing : goal.returns-clause-passing
returns-clause-passing g c =
    asked-passing c.args.self.now.starts.now (g.S.StepSolver.seen c.args.self.now.steps.now) c.args.self.now.level c.args.cube.now c.inductive_part.result c.inductive_part.ensures.asked
