use Rattle.clap.specs.Matches.{found_of}
use Rattle.clap.specs.Walk.{rows_of}
use Rattle.command_lines.proofs.EachCommand.{no_slice}
use Rattle.command_lines.proofs.commands.slicing.slice_of.Goals as goal

pub returns-in_err-property-clause-none : goal.returns-in_err-property-clause-none
returns-in_err-property-clause-none c =
    rw c.from_residual-in_err-property.ensures (no_slice (rows_of (found_of c.args.given.now)) (λ wants h. c.in_err-property.ensures.none wants.1 h.number))
