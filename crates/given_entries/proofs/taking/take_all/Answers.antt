use Rattle.std.specs.Vec.Iter.{into_iter_items, into_iter_len}
use Rattle.given_entries.proofs.Entries.{left_clauses, left_on, left_done}
use Rattle.given_entries.proofs.taking.take_all.Goals as goal

pub take-requires : goal.take-requires
take-requires c =
    left_clauses c.args.circuit.now c.args.entries (into_iter_items c.loop-written.written-iterator) (into_iter_items c.next.new.self) c.in-Some.written
    (into_iter_len c.loop-written.written-iterator) c.loop-written.list c.loop-written.invariant c.in-Some.ensures.steps.0

pub loop-written-preserved : goal.loop-written-preserved
loop-written-preserved c =
    left_on c.args.circuit.now c.args.entries (into_iter_items c.loop-written.written-iterator) (into_iter_items c.next.new.self) c.in-Some.written
    (into_iter_len c.loop-written.written-iterator) (into_iter_len c.next.new.self) c.loop-written.list _ c.loop-written.invariant c.in-Some.ensures.steps.0
    c.in-Some.ensures.steps.1 c.in_ok-take.ensures

pub returns : goal.returns
returns c =
    left_done c.args.circuit.now c.args.entries (into_iter_items c.loop-written.written-iterator) (into_iter_len c.loop-written.written-iterator) c.loop-written.list
    c.loop-written.invariant c.in-None.ensures.steps.0
