use Rattle.std.proofs.Common.{codes, ℕ, List, subst}
use Rattle.std.specs.Prelude.{Option}
use Rattle.sheet_answers.specs.Ends.{JudgeSays}
use Rattle.sheet_answers.proofs.HeldTexts.{judged_says, judged_exactly, never_unjudged, was_judged}
use Rattle.sheet_answers.proofs.texts.check_text.Goals as goal

pub returns-in-Ok-clause-found : goal.returns-in-Ok-clause-found
returns-in-Ok-clause-found c =
    judged_says c.args.circuit.now c.args.text.items c.check_answer.result
    (never_unjudged c.check_answer.result (codes "text") c.args.text.items c.in-Ok.shelf c.check_answer.new.shelf c.in-Ok.ensures.steady c.in-Ok.ensures.held c.check_answer.ensures.reads)
    (subst (λ (told : Option (List ℕ)). JudgeSays c.args.circuit.now told c.check_answer.result) c.in-Ok.ensures.held c.check_answer.ensures.found)

pub returns-in-Ok-clause-exactly : goal.returns-in-Ok-clause-exactly
returns-in-Ok-clause-exactly c = λ verdict d.
    judged_exactly c.check_answer.result verdict
    (never_unjudged c.check_answer.result (codes "text") c.args.text.items c.in-Ok.shelf c.check_answer.new.shelf c.in-Ok.ensures.steady c.in-Ok.ensures.held c.check_answer.ensures.reads)
    (c.check_answer.ensures.exactly c.args.text.items verdict c.in-Ok.ensures.held d)

pub returns-in-Ok-clause-unread : goal.returns-in-Ok-clause-unread
returns-in-Ok-clause-unread c =
    was_judged c.check_answer.result
    (never_unjudged c.check_answer.result (codes "text") c.args.text.items c.in-Ok.shelf c.check_answer.new.shelf c.in-Ok.ensures.steady c.in-Ok.ensures.held c.check_answer.ensures.reads)
