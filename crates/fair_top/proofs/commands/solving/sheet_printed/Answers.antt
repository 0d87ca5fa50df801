use Rattle.fair_top.proofs.Decided.{sheet_printed}
use Rattle.fair_top.proofs.commands.solving.sheet_printed.Goals as goal

pub returns-in-Ok-clause-found : goal.returns-in-Ok-clause-found
returns-in-Ok-clause-found c =
    sheet_printed c.args.circuit.now c.args.board.now c.in-Ok.field-0.counts c.entry_count.result c.in-Ok.field-0.text.items c.requires.each c.requires.settled
    c.entry_count.ensures c.in-Ok.ensures.text c.in-Ok.ensures.good c.in-Ok.ensures.shown
