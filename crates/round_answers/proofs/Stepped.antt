-- What a step inside a run or a certificate tells of the step of the text.
use Rattle.std.proofs.Common.{◌≡◌, ℕ, List, refl, ap, Result, Ok, Err}
use Rattle.aig_semantics.specs.Circuits.{Circuit}
use Rattle.certificate.specs.declared.ends.AnswerEnd.{AnswerEnd}
use Rattle.certificate.specs.declared.ends.AnswerEnd.TheVariants as ends
use Rattle.certificate.specs.Reading as answers
use Rattle.certificate.specs.Steps.{OfEnd as OfAnswer}
use Rattle.round_answers.specs.declared.ends.JudgeEnd.TheVariants.{Answer}
use Rattle.round_answers.specs.Reading.{State, Stepped, within}
use Rattle.round_answers.specs.Seen.{TellsStep}

pub within_end : (c : Circuit) (inside : answers.State → State) (r : answers.Stepped) (end : AnswerEnd) → OfAnswer (λ fault. r ≡ Err fault) end → TellsStep c (within inside r) (Err (Answer end))
within_end c inside r (ends.Refused fault) of = ap (within inside) of
within_end c inside r ends.ReadFault of = absurd of
within_end c inside r ends.Memory of = tt
