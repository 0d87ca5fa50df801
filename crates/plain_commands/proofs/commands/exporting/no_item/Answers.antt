use Rattle.plain_commands.proofs.Exported.{item_written}
use Rattle.plain_commands.proofs.commands.exporting.no_item.Goals as goal

pub returns : goal.returns
returns c = item_written c.with_text.result c.args.entry c.args.clause c.with_text.ensures.status c.with_text.ensures.text c.with_text.ensures.silent
