use Rattle.std.proofs.Common.{◌≡◌, take}
use Rattle.entry.specs.CheckedEntries.{viewed}
use Rattle.entry.specs.Listing.{entries_of}
use Rattle.entry.proofs.views.list_of.Given as goal

abbrev pub invariant-loop-shared : goal.invariant-loop-shared
invariant-loop-shared l = entries_of l.list.items ≡ viewed (take l.shared-index l.view)
