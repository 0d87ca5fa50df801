use Rattle.plain_commands.proofs.Translated.{is_printed}
use Rattle.plain_commands.proofs.commands.translating.printed.Goals as goal

pub returns-in-Ok-clause-found : goal.returns-in-Ok-clause-found
returns-in-Ok-clause-found c =
    is_printed c.args.circuit.now c.args.property c.args.model.now c.in-Ok.text.items c.requires.model c.requires.able c.requires.exact
    c.in-Ok.ensures.text c.in-Ok.ensures.stands c.in-Ok.ensures.read
