use Rattle.std.proofs.Common.{◌≡◌, drop}
use Rattle.std.specs.List.{list_all}
use Rattle.fair_semantics.specs.Entries.{entry_at}
use Rattle.entry.specs.CheckedEntries.{viewed}
use Rattle.entry.specs.Faults.{are_known}
use Rattle.ic3_closing.proofs.standing.are_named.Given as goal

abbrev pub invariant-loop-u : goal.invariant-loop-u
invariant-loop-u l =
    list_all (λ u. are_known l.uses (entry_at (viewed l.view) u.entry).uses) (drop l.u-index l.uses)
    ≡ list_all (λ u. are_known l.uses (entry_at (viewed l.view) u.entry).uses) l.uses
