use Rattle.std.proofs.Common.{map}
use Rattle.std.specs.Arc.{arc_value}
use Rattle.std.specs.Vec.Iter.{into_iter_items, into_iter_len}
use Rattle.given_entries.proofs.Lists.{Left}
use Rattle.given_entries.proofs.listing.list_all.Given as goal

abbrev pub invariant-loop-entry : goal.invariant-loop-entry
invariant-loop-entry l = Left (arc_value l.circuit) l.fn.entries (into_iter_items l.entry-iterator) (into_iter_len l.entry-iterator) (map arc_value l.list.items)
