use Rattle.std.proofs.Common.{◌∙◌}
use Rattle.command_lines.specs.Words.{bytes_of}
use Rattle.command_lines.specs.Commands.{meant}
use Rattle.plain_commands.specs.Statuses.{status_in}
use Rattle.fair_top.proofs.Ending.{refused_ends, exact_for, solves_for, unsolved, nothing_read, not_a_read}
use Rattle.fair_top.proofs.commands.ending_of.Goals as goal

pub returns-in-Ok-clause-exactly : goal.returns-in-Ok-clause-exactly
returns-in-Ok-clause-exactly g c =
    exact_for (g.H.Shelf.held c.args.shelf.now) (bytes_of c.args.words.now) (meant c.in-Ok.asked) (status_in c.ending_for.result)
    c.in-Ok.ensures.found c.ending_for.ensures.exactly

pub returns-in-Ok-clause-read : goal.returns-in-Ok-clause-read
returns-in-Ok-clause-read g c = λ e. (meant c.in-Ok.asked, c.in-Ok.ensures.found, c.ending_for.ensures.read e, c.ending_for.ensures.there e)

pub returns-in-Err-clause-reads : goal.returns-in-Err-clause-reads
returns-in-Err-clause-reads g c =
    nothing_read g.H.Shelf.reads (g.H.Shelf.held c.args.shelf.now) (bytes_of c.args.words.now) (status_in c.with_text.result) c.args.shelf.now
    c.in-Err.ensures.either (c.with_text.ensures.fault ∙ not_a_read (bytes_of c.args.words.now) c.in-Err.status c.in-Err.ensures.ended)

pub returns-in-Ok-clause-solved : goal.returns-in-Ok-clause-solved
returns-in-Ok-clause-solved g c =
    solves_for (g.H.Shelf.held c.args.shelf.now) (bytes_of c.args.words.now) (meant c.in-Ok.asked) (status_in c.ending_for.result)
    c.in-Ok.ensures.found c.ending_for.ensures.solved

pub returns-in-Err-clause-solved : goal.returns-in-Err-clause-solved
returns-in-Err-clause-solved g c =
    unsolved (g.H.Shelf.held c.args.shelf.now) (bytes_of c.args.words.now) c.in-Err.status (status_in c.with_text.result)
    c.in-Err.ensures.ended c.with_text.ensures.status

pub returns-in-Err-clause-found : goal.returns-in-Err-clause-found
returns-in-Err-clause-found g c =
    refused_ends (g.H.Shelf.held c.args.shelf.now) (bytes_of c.args.words.now) c.in-Err.status c.with_text.result
    c.in-Err.ensures.ended c.with_text.ensures.text c.with_text.ensures.aloud
