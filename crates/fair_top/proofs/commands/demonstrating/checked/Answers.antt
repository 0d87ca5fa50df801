use Rattle.std.proofs.Common.{Ok, codes}
use Rattle.fair_top.proofs.Summed.{never_refused, never_unread}
use Rattle.fair_top.proofs.commands.demonstrating.checked.Goals as goal

pub unreachable-requires : goal.unreachable-requires
unreachable-requires c =
    never_refused c.requires.0 c.check_answer.result c.in-Err-Refused.field-0 c.in-Err-Refused.field-0-0 c.in-Err-Refused.is c.in-Err-Refused.field-0-is
    (c.check_answer.ensures.exactly c.args.text.items (Ok c.requires.0) c.in-Ok.ensures.held c.requires.1)

pub unreachable-requires-in-Err-ReadFault : goal.unreachable-requires-in-Err-ReadFault
unreachable-requires-in-Err-ReadFault c =
    never_unread c.check_answer.result c.in-Err-ReadFault.field-0 (codes "answer") c.args.text.items c.in-Ok.shelf c.check_answer.new.shelf
    c.in-Err-ReadFault.is c.in-Err-ReadFault.field-0-is c.in-Ok.ensures.steady c.in-Ok.ensures.held c.check_answer.ensures.reads
