use Rattle.plain_commands.proofs.Written.{refused_written}
use Rattle.plain_commands.proofs.commands.remaking.refused.Goals as goal

pub returns : goal.returns
returns c = refused_written c.with_text.result c.args.fault c.with_text.ensures.status c.with_text.ensures.text c.with_text.ensures.silent
