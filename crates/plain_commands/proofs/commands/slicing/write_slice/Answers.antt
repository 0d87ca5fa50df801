use Rattle.plain_commands.specs.Statuses.{status_in}
use Rattle.plain_commands.proofs.Sliced.{sliced_gives, sliced_exact, sliced_shown, without_slice, without_slice_exact}
use Rattle.plain_commands.proofs.Written.{without_shown}
use Rattle.plain_commands.proofs.commands.slicing.write_slice.Goals as goal

pub returns-in-Ok-clause-found : goal.returns-in-Ok-clause-found
returns-in-Ok-clause-found g c =
    sliced_gives c.in-Ok.found (g.H.Shelf.held c.args.shelf.now c.args.model.now) c.args.property c.sliced-ending.result
    c.in-Ok.ensures.found c.sliced-ending.ensures.found

pub returns-in-Ok-clause-exactly : goal.returns-in-Ok-clause-exactly
returns-in-Ok-clause-exactly g c =
    sliced_exact c.in-Ok.found (g.H.Shelf.held c.args.shelf.now c.args.model.now) c.args.property c.sliced-ending.result
    c.in-Ok.ensures.found c.sliced-ending.ensures.found c.sliced-ending.ensures.ended

pub returns-in-Ok-clause-shown : goal.returns-in-Ok-clause-shown
returns-in-Ok-clause-shown g c =
    sliced_shown c.in-Ok.found c.args.property c.sliced-ending.result c.sliced-ending.ensures.found c.sliced-ending.ensures.ended

pub returns-in-Err-clause-found : goal.returns-in-Err-clause-found
returns-in-Err-clause-found g c =
    without_slice (g.H.Shelf.held c.args.shelf.now c.args.model.now) c.args.property c.in-Err.status c.with_text.result c.in-Err.ensures.ended
    c.with_text.ensures.text c.with_text.ensures.aloud

pub returns-in-Err-clause-exactly : goal.returns-in-Err-clause-exactly
returns-in-Err-clause-exactly g c =
    without_slice_exact (g.H.Shelf.held c.args.shelf.now c.args.model.now) c.args.property c.in-Err.status (status_in c.with_text.result) c.in-Err.ensures.ended
    c.with_text.ensures.status

pub returns-in-Err-clause-shown : goal.returns-in-Err-clause-shown
returns-in-Err-clause-shown g c =
    without_shown (g.H.Shelf.held c.args.shelf.now c.args.model.now) c.in-Err.status (status_in c.with_text.result) c.in-Err.ensures.ended c.with_text.ensures.status
