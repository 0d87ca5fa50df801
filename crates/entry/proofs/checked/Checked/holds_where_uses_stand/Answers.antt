use Rattle.std.proofs.Common.{subst}
use Rattle.entry.specs.CheckedEntries.{HoldsWhereUsesStand}
use Rattle.entry.proofs.checked.Checked.holds_where_uses_stand.Goals as goal

pub returns : goal.returns
returns c = subst HoldsWhereUsesStand c.self.view_is c.self.invariant
