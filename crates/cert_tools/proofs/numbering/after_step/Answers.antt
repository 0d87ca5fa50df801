use Rattle.std.proofs.Common.{ℕ, ◌+◌, ◌*◌, ap, ◌∙◌}
use Rattle.std.proofs.lemmas.Result.{IfOk-weaker}
use Rattle.cnf_unroll.specs.Lending.{lent_all}
use Rattle.cert_tools.proofs.FreeNumbers.{step_free}
use Rattle.cert_tools.proofs.numbering.after_step.Goals as goal

pub returns : goal.returns
returns c =
    IfOk-weaker c.behind_uses.result _ _ (λ next is. is ∙ step_free c.args.c.now (lent_all c.args.uses.now) _ (ap (λ (n : ℕ). 2 * n + 3) c.max.ensures.value)) c.behind_uses.ensures
