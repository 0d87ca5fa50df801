use Rattle.std.proofs.Common.{◌∙◌, sym}
use Rattle.certificate_texts.proofs.Variables.{variable_small}
use Rattle.round_answers.proofs.writing.latch_variable.Goals as goal

pub returns-in-Some-clause-small : goal.returns-in-Some-clause-small
returns-in-Some-clause-small c =
    variable_small c.args.t.now c.max-limits.ensures.checked c.max-limits.ensures.limits _ c.args.n (sym c.latch_at.ensures ∙ c.in-Some.is)
