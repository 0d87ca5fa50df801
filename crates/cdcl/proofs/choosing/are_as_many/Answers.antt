use Rattle.std.proofs.Common.{length, leb-true}
use Rattle.cdcl.proofs.FullLaws.{full_counted}
use Rattle.cdcl.proofs.choosing.are_as_many.Goals as goal

pub returns : goal.returns
returns c = λ long.
    full_counted c.args.variables.now c.args.trail.now.steps c.literals.result.now c.literals.ensures.value c.literals.ensures.once c.requires
    (leb-true (length c.args.variables.now) (length c.literals.result.now) long)
