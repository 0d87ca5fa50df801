use Rattle.plain_commands.proofs.Sliced.{slice_is_printed}
use Rattle.plain_commands.proofs.commands.slicing.printed.Goals as goal

pub returns-in-Ok-clause-found : goal.returns-in-Ok-clause-found
returns-in-Ok-clause-found c =
    slice_is_printed c.args.model.now c.args.property c.args.part.now c.in-Ok.text.items c.requires.slice c.requires.able c.requires.exact
    c.in-Ok.ensures.text c.in-Ok.ensures.stands c.in-Ok.ensures.read
