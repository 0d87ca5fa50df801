use Rattle.clap.specs.Matches.{found_of}
use Rattle.clap.specs.Walk.{rows_of}
use Rattle.command_lines.proofs.EachCommand.{no_export}
use Rattle.command_lines.proofs.commands.exporting.export_of.Goals as goal

pub returns-in_err-request-clause-none : goal.returns-in_err-request-clause-none
returns-in_err-request-clause-none c = rw c.from_residual-in_err-request.ensures (no_export (rows_of (found_of c.args.given.now)) c.in_err-request.ensures.none)
