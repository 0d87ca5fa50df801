use Rattle.std.proofs.Common.{ap}
use Rattle.cdcl_trail.specs.Renaming.{named_steps, named_clauses}
use Rattle.cdcl_trail.proofs.NamedLaws.{named_new}
use Rattle.cdcl_trail.proofs.trail.Trail.new.Goals as goal

pub invariant_of-result : goal.invariant_of-result
invariant_of-result c =
    named_new c.new.result c.new-2.result c.new-3.result.items c.new.ensures c.new-2.ensures.steps c.new-2.ensures.taken c.new-3.ensures.items

pub returns-clause-steps : goal.returns-clause-steps
returns-clause-steps c = ap (named_steps c.new.result) c.new-2.ensures.steps

pub returns-clause-taken : goal.returns-clause-taken
returns-clause-taken c = ap (named_clauses c.new.result) c.new-2.ensures.taken
