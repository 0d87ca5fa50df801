use Rattle.std.proofs.Common.{rules, subst}
use Rattle.ic3_semantics.specs.Stepping.{IsFound}
use Rattle.ic3_loops.proofs.Excluded.{asked-missing}
use Rattle.ic3_loops.proofs.shortening.inductive_part.Goals as goal

pub returns-clause-asked : goal.returns-clause-asked
returns-clause-asked g c =
    asked-missing c.args.starts.now (g.S.StepSolver.seen c.args.steps.now) c.args.level c.args.cube.now c.in-Missing.part c.in_ok-based-in-Missing.field-0
    (search rules) (search rules)
    (subst (IsFound (g.S.StepSolver.seen c.args.steps.now) c.args.level c.args.cube.now) c.in-Missing.is c.in_ok-predecessor.ensures.found)
    c.in_ok-based-in-Missing.ensures
