use Rattle.std.specs.Vec.Iter.{into_iter_items, into_iter_len}
use Rattle.given_entries.proofs.Entries.{Left}
use Rattle.given_entries.proofs.taking.take_all.Given as goal

abbrev pub invariant-loop-written : goal.invariant-loop-written
invariant-loop-written l = Left l.circuit l.fn.entries (into_iter_items l.written-iterator) (into_iter_len l.written-iterator) l.list
