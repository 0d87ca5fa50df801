use Rattle.plain_commands.proofs.Counted.{rounds_are_printed}
use Rattle.plain_commands.proofs.commands.counting.printed.Goals as goal

pub returns-in-Ok-clause-found : goal.returns-in-Ok-clause-found
returns-in-Ok-clause-found c =
    rounds_are_printed c.args.circuit.now c.args.request.now c.args.found.now c.is_reached-reached.result c.in-Ok.text.items
    c.requires.asked c.requires.so c.requires.decided c.is_reached-reached.ensures c.in-Ok.ensures.good
