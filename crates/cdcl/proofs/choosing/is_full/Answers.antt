use Rattle.std.proofs.Common.{sym, ◌∙◌}
use Rattle.cdcl.proofs.ValueLaws.{full_satisfied}
use Rattle.cdcl.proofs.choosing.is_full.Goals as goal

pub returns-in-Some : goal.returns-in-Some
returns-in-Some c = λ full.
    full_satisfied c.args.trail.now.steps c.in-Some.all.now c.args.log.now.clauses (c.are_as_many.ensures full) c.in-Some.ensures.clauses c.requires.complete

pub returns-in-None : goal.returns-in-None
returns-in-None c = λ full.
    full_satisfied c.args.trail.now.steps c.variables-variables.result.now c.args.log.now.clauses (sym c.have_values.ensures ∙ full) c.variables-variables.ensures c.requires.complete
