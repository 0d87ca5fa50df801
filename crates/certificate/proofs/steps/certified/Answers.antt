use Rattle.std.proofs.Common.{Result, subst}
use Rattle.certificate.specs.declared.ends.AnswerEnd.{AnswerEnd}
use Rattle.certificate.specs.declared.state.Wanted.{Wanted}
use Rattle.certificate.specs.Steps.{TellsWanted}
use Rattle.certificate.proofs.WantedEnds.{same_end}
use Rattle.certificate.proofs.steps.certified.Goals as goal

pub returns-in-Err : goal.returns-in-Err
returns-in-Err c =
    λ circuit stepped told. same_end circuit stepped c.args.body c.in-Err.end
    (subst (λ (r : Result Wanted AnswerEnd). TellsWanted circuit stepped c.args.body r) c.in-Err.is told)
