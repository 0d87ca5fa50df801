use Rattle.std.proofs.lemmas.Result.{IfOk-weaker}
use Rattle.cert_tools.proofs.trimming.trim.Goals as goal

pub returns-clause-good : goal.returns-clause-good
returns-clause-good c =
    IfOk-weaker c.trimmed_of.result _ _ (λ trimmed is. c.trimmed_answers_are_good.ensures.good c.requires.0 c.args.loaded.now trimmed c.requires.1 is) c.trimmed_of.ensures

pub returns-clause-again : goal.returns-clause-again
returns-clause-again c =
    IfOk-weaker c.trimmed_of.result _ _ (λ trimmed is. c.trimmed_answers_are_good.ensures.again c.requires.0 c.args.loaded.now trimmed c.requires.1 is) c.trimmed_of.ensures
