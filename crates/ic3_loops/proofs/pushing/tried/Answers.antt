use Rattle.ic3_loops.proofs.pushing.tried.Goals as goal

pub returns-then-branch-clause-known : goal.returns-then-branch-clause-known
returns-then-branch-clause-known g c = c.in_ok-is_stuck.ensures.known (g.S.StepSolver.seen c.args.steps.now).question c.requires.known

pub asked-requires-clause-known : goal.asked-requires-clause-known
asked-requires-clause-known g c = c.in_ok-is_stuck.ensures.known (g.S.StepSolver.seen c.args.steps.now).question c.requires.known
