use Rattle.std.proofs.Common.{sym, subst}
use Rattle.entry.specs.Listing.{entries_of}
use Rattle.certificate.specs.Reading.{Stepped as AnswerStepped}
use Rattle.sheet_answers.specs.Reading.{Plain, after_answer, shown}
use Rattle.sheet_answers.specs.Seen.{TellsStep}
use Rattle.sheet_answers.proofs.blocks_read.show_step.Goals as goal

pub returns-in-Ok : goal.returns-in-Ok
returns-in-Ok c replays are =
    subst (λ (r : AnswerStepped). TellsStep c.args.circuit.now (after_answer (shown replays c.args.t (entries_of c.args.body.list)) Plain r) c.shown.result) (sym c.in-Ok.ensures.ok)
    (c.shown.ensures replays are)
