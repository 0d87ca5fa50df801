use Rattle.plain_commands.proofs.Bounded.{cut_is_said}
use Rattle.plain_commands.proofs.commands.bounding.cut_short.Goals as goal

pub returns-in-Spent-clause-found : goal.returns-in-Spent-clause-found
returns-in-Spent-clause-found c =
    cut_is_said c.args.circuit.now c.args.request.now c.args.meter.now c.args.end c.in-Spent.field-0 c.in-Spent.done c.open_at.result
    c.requires.property c.requires.end c.in-Spent.is c.requires.limit c.open_at.ensures.status c.open_at.ensures.text
