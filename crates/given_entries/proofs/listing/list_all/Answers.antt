use Rattle.std.proofs.Common.{rules, ◌≡◌, map, subst}
use Rattle.std.specs.Arc.{arc_value}
use Rattle.std.specs.Vec.Iter.{into_iter_items, into_iter_len}
use Rattle.aig_semantics.specs.Circuits.{Circuit}
use Rattle.entry.specs.Laws.{GoodListsGrow}
use Rattle.given_entries.proofs.Lists.{left_good, left_proved, left_on, left_done}
use Rattle.given_entries.proofs.listing.list_all.Goals as goal

pub put-requires-clause-good : goal.put-requires-clause-good
put-requires-clause-good c =
    left_good (arc_value c.args.circuit.now) c.args.entries (into_iter_items c.loop-entry.entry-iterator) (into_iter_len c.loop-entry.entry-iterator)
    c.loop-entry.list.items c.loop-entry.invariant

pub put-requires-clause-proved : goal.put-requires-clause-proved
put-requires-clause-proved c =
    left_proved (arc_value c.args.circuit.now) c.args.entries (into_iter_items c.loop-entry.entry-iterator) (into_iter_items c.next.new.self) c.in-Some.entry
    (into_iter_len c.loop-entry.entry-iterator) c.loop-entry.list.items c.loop-entry.invariant c.in-Some.ensures.steps.0

pub loop-entry-preserved : goal.loop-entry-preserved
loop-entry-preserved c =
    let is : c.deref.result.now ≡ arc_value c.args.circuit.now = search rules in
    left_on (arc_value c.args.circuit.now) c.args.entries (into_iter_items c.loop-entry.entry-iterator) (into_iter_items c.next.new.self) c.in-Some.entry
    (into_iter_len c.loop-entry.entry-iterator) (into_iter_len c.next.new.self) c.loop-entry.list.items _
    (subst (λ (k : Circuit). GoodListsGrow k) is c.good_lists_grow.ensures) c.loop-entry.invariant c.in-Some.ensures.steps.0 c.in-Some.ensures.steps.1
    c.in_ok-put.ensures

pub returns : goal.returns
returns c =
    left_done (arc_value c.args.circuit.now) c.args.entries (into_iter_items c.loop-entry.entry-iterator) (into_iter_len c.loop-entry.entry-iterator)
    (map arc_value c.loop-entry.list.items) c.loop-entry.invariant c.in-None.ensures.steps.0
