use Rattle.command_lines.proofs.Making.{taken}
use Rattle.command_lines.proofs.words.with_argument.Goals as goal

pub returns-in-Ok : goal.returns-in-Ok
returns-in-Ok c = taken c.args.made c.in-Ok.command c.args.argument c.arg.result c.in-Ok.is c.requires c.arg.ensures

pub returns-in-Err : goal.returns-in-Err
returns-in-Err c app h = record { shape = tt; local = tt }
