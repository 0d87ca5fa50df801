use Rattle.std.proofs.Common.{rules, ◌≡◌, Result, Err, inr, refl, sym, subst}
use Rattle.certificate.specs.declared.ends.Accepted.{Accepted}
use Rattle.certificate.specs.declared.ends.AnswerEnd.{AnswerEnd}
use Rattle.certificate.specs.declared.ends.AnswerEnd.TheVariants as ends
use Rattle.certificate.specs.Ends.{EndsWith}
use Rattle.certificate.proofs.checking.read_answer.Goals as goal

pub returns-in_err-lines-clause-exactly : goal.returns-in_err-lines-clause-exactly
returns-in_err-lines-clause-exactly g c =
    let e : c.from_residual.result ≡ Err ends.Memory = search rules in
    λ text verdict told reads. subst (λ (r : Result Accepted AnswerEnd). EndsWith r verdict) (sym e) (inr refl)
