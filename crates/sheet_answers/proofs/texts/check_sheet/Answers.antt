use Rattle.std.proofs.Common.{◌≡◌}
use Rattle.sheet_answers.proofs.HeldTexts.{only_room}
use Rattle.sheet_answers.proofs.texts.check_sheet.Goals as goal

pub returns-in-Err-clause-exactly : goal.returns-in-Err-clause-exactly
returns-in-Err-clause-exactly c = λ verdict d. only_room c.plain.result c.plain.ensures (λ end. end ≡ verdict)
