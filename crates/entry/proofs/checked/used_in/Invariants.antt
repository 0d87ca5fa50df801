use Rattle.std.proofs.Common.{◌≡◌, map, take}
use Rattle.fair_semantics.specs.Entries.{used_entries}
use Rattle.entry.specs.Listing.{numbered_of}
use Rattle.entry.specs.CheckedEntries.{viewed}
use Rattle.entry.proofs.checked.used_in.Given as goal

abbrev pub invariant-loop-u : goal.invariant-loop-u
invariant-loop-u l = map numbered_of l.found ≡ used_entries (viewed l.view) (take l.u-index l.uses)
