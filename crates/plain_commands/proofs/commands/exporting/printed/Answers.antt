use Rattle.std.proofs.Common.{refl, inl}
use Rattle.plain_commands.proofs.Exported.{no_item_ends}
use Rattle.plain_commands.proofs.commands.exporting.printed.Goals as goal

pub returns-in-Ok : goal.returns-in-Ok
returns-in-Ok c = inl (c.in-Ok.ensures.there, refl, c.in-Ok.ensures.text)

pub returns-in-Err-NoItem : goal.returns-in-Err-NoItem
returns-in-Err-NoItem c =
    let facts = rw c.in-Err-NoItem.field-0-is at c.in-Err-NoItem.ensures in
    no_item_ends c.args.circuit.now c.args.loaded.now c.args.request.now c.no_item.result (facts.none refl) c.no_item.ensures
