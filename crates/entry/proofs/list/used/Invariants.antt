use Rattle.std.proofs.Common.{◌≡◌, take}
use Rattle.fair_semantics.specs.Entries.{used_entries}
use Rattle.cnf_unroll.specs.Lending.{lent_all}
use Rattle.entry.specs.Listing.{entries_of}
use Rattle.entry.proofs.list.used.Given as goal

abbrev pub invariant-loop-u : goal.invariant-loop-u
invariant-loop-u l = lent_all l.found ≡ used_entries (entries_of l.list) (take l.u-index l.uses)
