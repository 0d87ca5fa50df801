use Rattle.std.proofs.Common.{◌≡◌, take}
use Rattle.fair_semantics.specs.Entries.{used_entries}
use Rattle.cnf_unroll.specs.Lending.{lent_all}
use Rattle.entry.specs.CheckedEntries.{viewed}
use Rattle.entry.proofs.views.lend_used.Given as goal

abbrev pub invariant-loop-u : goal.invariant-loop-u
invariant-loop-u l = lent_all l.found ≡ used_entries (viewed l.view) (take l.u-index l.uses)
