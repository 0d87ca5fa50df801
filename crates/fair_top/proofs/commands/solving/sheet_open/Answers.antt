use Rattle.fair_top.proofs.Decided.{sheet_reported}
use Rattle.fair_top.proofs.commands.solving.sheet_open.Goals as goal

pub returns-in-Ok-clause-text : goal.returns-in-Ok-clause-text
returns-in-Ok-clause-text c =
    sheet_reported c.args.circuit.now c.args.report c.in-Ok.field-0.counts c.in-Ok.field-0.text.items c.in-Ok.ensures.text c.in-Ok.ensures.good c.in-Ok.ensures.shown
