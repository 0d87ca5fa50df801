use Rattle.plain_commands.proofs.Converted.{converts}
use Rattle.plain_commands.proofs.commands.converting.ConversionMakesText.text.Goals as goal

pub returns : goal.returns
returns c =
    converts (λ text. text.items) c.args.circuit.now c.args.loaded.now c.print.result c.printed_answers_hold_the_same.ensures.good c.printed_answers_hold_the_same.ensures.same
    c.print.ensures.text c.print.ensures.within
