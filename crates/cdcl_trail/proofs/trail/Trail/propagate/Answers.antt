use Rattle.std.proofs.Common.{ap, ◌∙◌}
use Rattle.cdcl_trail.specs.Trails.{level}
use Rattle.cdcl_trail.proofs.PassLaws.{propagates_level}
use Rattle.cdcl_trail.proofs.trail.Trail.propagate.Goals as goal

pub returns-clause-level : goal.returns-clause-level
returns-clause-level c =
    propagates_level c.settle.new.self.taken c.take_all.new.self.steps c.settle.new.self.steps c.settle.ensures.reasons
    ∙ ap level c.take_all.ensures.steps
