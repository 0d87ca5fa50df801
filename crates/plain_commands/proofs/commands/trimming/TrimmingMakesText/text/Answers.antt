use Rattle.plain_commands.proofs.Trimmed.{trims}
use Rattle.plain_commands.proofs.commands.trimming.TrimmingMakesText.text.Goals as goal

pub returns : goal.returns
returns c =
    trims (λ text. text.items) c.args.circuit.now c.args.loaded.now c.in_ok-trimmed.trimmed c.print.result c.printed_answers_hold_the_same.ensures.good
    c.trimmed_answers_are_good.ensures.one c.trimmed_answers_are_good.ensures.held c.in_ok-trimmed.ensures.trimmed c.in_ok-trimmed.ensures.good c.in_ok-trimmed.ensures.again
    c.print.ensures.text c.print.ensures.within
