use Rattle.std.proofs.Common.{◌∙◌}
use Rattle.entry.specs.Listing.{entries_of}
use Rattle.entry.proofs.Search.{next_rest, next_below, next_ascend}
use Rattle.entry.proofs.uses.first_bad_use.Goals as goal

pub loop-i-preserved : goal.loop-i-preserved
loop-i-preserved c =
    let list = entries_of c.args.list.now in
    let uses = c.args.uses.now in
    let i = c.loop-i.i in
    let at = c.loop-i.invariant in
    record {
      rest = next_rest c.args.user list uses i c.loop-i.least _ _ _ c.loop-i-test.true c.may_stand.ensures c.if-not-may_stand.false c.from-least.ensures ∙ at.rest;
      below = next_below c.args.user list uses i c.loop-i.least _ _ _ c.loop-i-test.true c.may_stand.ensures c.if-not-may_stand.false c.from-least.ensures at.below;
      ascend = next_ascend c.args.user list uses i c.loop-i.least _ _ _ c.loop-i-test.true c.may_stand.ensures c.if-not-may_stand.false c.from-least.ensures at.below at.ascend;
    }
