use Rattle.command_lines.proofs.Making.{attached}
use Rattle.command_lines.proofs.words.with_made.Goals as goal

pub returns-in-Ok : goal.returns-in-Ok
returns-in-Ok c app = attached c.args.program c.args.made c.in-Ok.command c.subcommand.result app c.in-Ok.is c.subcommand.ensures
