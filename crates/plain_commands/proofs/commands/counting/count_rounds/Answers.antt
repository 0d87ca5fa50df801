use Rattle.plain_commands.specs.Statuses.{status_in}
use Rattle.plain_commands.proofs.Counted.{counted_gives, counted_exact, counted_shown, without_gives, without_exact, without_shown}
use Rattle.plain_commands.proofs.commands.counting.count_rounds.Goals as goal

pub returns-in-Ok-clause-found : goal.returns-in-Ok-clause-found
returns-in-Ok-clause-found g c =
    counted_gives c.circuit.result.now c.in-Ok.found (g.H.Shelf.held c.args.shelf.now c.args.model.now) c.args.request.now c.counted-ending.result
    c.circuit.ensures.circuit c.in-Ok.ensures.found c.counted-ending.ensures.found

pub returns-in-Ok-clause-exactly : goal.returns-in-Ok-clause-exactly
returns-in-Ok-clause-exactly g c =
    counted_exact c.circuit.result.now c.in-Ok.found (g.H.Shelf.held c.args.shelf.now c.args.model.now) c.args.request.now c.counted-ending.result
    c.circuit.ensures.circuit c.in-Ok.ensures.found c.counted-ending.ensures.found c.counted-ending.ensures.ended

pub returns-in-Ok-clause-shown : goal.returns-in-Ok-clause-shown
returns-in-Ok-clause-shown g c =
    counted_shown c.circuit.result.now c.in-Ok.found (g.H.Shelf.held c.args.shelf.now c.args.model.now) c.args.request.now c.counted-ending.result
    c.circuit.ensures.circuit c.in-Ok.ensures.found c.counted-ending.ensures.found c.counted-ending.ensures.ended

pub returns-in-Err-clause-found : goal.returns-in-Err-clause-found
returns-in-Err-clause-found g c =
    without_gives (g.H.Shelf.held c.args.shelf.now c.args.model.now) c.args.request.now c.in-Err.status c.with_text.result c.in-Err.ensures.ended
    c.with_text.ensures.text c.with_text.ensures.aloud

pub returns-in-Err-clause-exactly : goal.returns-in-Err-clause-exactly
returns-in-Err-clause-exactly g c =
    without_exact (g.H.Shelf.held c.args.shelf.now c.args.model.now) c.args.request.now c.in-Err.status (status_in c.with_text.result) c.in-Err.ensures.ended
    c.with_text.ensures.status

pub returns-in-Err-clause-shown : goal.returns-in-Err-clause-shown
returns-in-Err-clause-shown g c =
    without_shown (g.H.Shelf.held c.args.shelf.now c.args.model.now) c.in-Err.status (status_in c.with_text.result) c.in-Err.ensures.ended c.with_text.ensures.status
