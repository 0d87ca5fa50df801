use Rattle.std.proofs.Common.{◌<◌, ◌≤◌, sym, ◌∙◌, arith}
use Rattle.cdcl_trail.specs.Trails.{level}
use Rattle.cdcl_trail.proofs.TrailLaws.{step_back, cut_nothing}
use Rattle.cdcl_trail.proofs.assignment.Assignment.back_to.Goals as goal

pub steps-preserved : goal.steps-preserved
steps-preserved c =
    let deep : c.args.target < level c.steps.self.steps = omega (arith, c.level.ensures, c.steps-test.true) in
    let back = step_back c.args.target c.steps.self.steps c.pop.new.self.steps c.pop.ensures deep in
    record { answer = back.same ∙ c.steps.invariant.answer; above = back.above }

pub returns-clause-steps : goal.returns-clause-steps
returns-clause-steps c =
    let within : level c.steps.self.steps ≤ c.args.target = omega (arith, c.level.ensures, c.steps-test.false) in
    sym (cut_nothing c.args.target c.steps.self.steps within) ∙ c.steps.invariant.answer
