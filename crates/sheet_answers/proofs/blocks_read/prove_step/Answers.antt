use Rattle.std.proofs.Common.{◌≡◌, ℕ, Err, subst}
use Rattle.certificate.specs.Reading.{Stepped as AnswerStepped, step as step_of_answer}
use Rattle.certificate.specs.Seen.{seen as seen_within}
use Rattle.sheet_answers.specs.Sheets.{total}
use Rattle.sheet_answers.specs.Reading.{after_answer, proved, refuting_fault}
use Rattle.sheet_answers.specs.Seen.{OfEnd}
use Rattle.sheet_answers.proofs.blocks_read.prove_step.Goals as goal

pub returns-in-Err : goal.returns-in-Err
returns-in-Err c =
    let r : AnswerStepped = step_of_answer c.args.circuit.now (seen_within c.args.refuted) c.args.number c.args.line.now in
    subst (λ (n : ℕ). OfEnd (λ fault. after_answer (proved c.args.t) (refuting_fault n) r ≡ Err fault) c.refuting_end.result) c.total.ensures.is
    (c.refuting_end.ensures (proved c.args.t) r c.in-Err.ensures.fault)
