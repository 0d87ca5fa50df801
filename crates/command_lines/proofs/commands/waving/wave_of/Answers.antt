use Rattle.clap.specs.Matches.{found_of}
use Rattle.clap.specs.Walk.{rows_of}
use Rattle.command_lines.proofs.EachCommand.{no_wave}
use Rattle.command_lines.proofs.commands.waving.wave_of.Goals as goal

pub returns-in_err-property-clause-none : goal.returns-in_err-property-clause-none
returns-in_err-property-clause-none c =
    rw c.from_residual-in_err-property.ensures (no_wave (rows_of (found_of c.args.given.now)) (λ waves h. c.in_err-property.ensures.none waves.2 h.number))
