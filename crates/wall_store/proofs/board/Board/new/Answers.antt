use Rattle.std.proofs.Common.{◌≡◌, ◌+◌, ◌≤◌, ℕ, List, map, min, length, sym, ap, ◌∙◌, subst, arith, le_of_eq}
use Rattle.std.proofs.lemmas.List.{length-map}
use Rattle.std.specs.Arc.{arc_value}
use Rattle.entry.specs.CheckedEntries.{CheckedEntry}
use Rattle.wall_store.specs.Boards.{IsBoard, most_entries}
use Rattle.wall_store.proofs.Kept.{first_keeps, first_same}
use Rattle.wall_store.proofs.board.Board.new.Goals as goal

pub invariant_of-result : goal.invariant_of-result
invariant_of-result c =
    let circuit = arc_value c.args.circuit.now in
    let given : List CheckedEntry = map arc_value c.args.given.now in
    let count : length given ≡ length c.args.given.now = length-map c.args.given.now arc_value in
    let limit : c.limit_of-limit.result ≡ min (length given + c.args.limit) most_entries =
    c.limit_of-limit.ensures ∙ ap (λ (n : ℕ). min (n + c.args.limit) most_entries) (sym count)
    in
    let few : length given ≤ most_entries = (let few_given = c.requires.few_given in omega (arith, few_given, count)) in
    record {
      board =
          subst IsBoard
          (first_same circuit (arc_value c.in_ok-try_clone.field-0) c.args.properties.now c.args.workers c.args.limit c.limit_of-limit.result
          c.count-held.result given (map arc_value c.in_ok-list_with_room.field-0.items) c.in_ok-unserved.field-0.items
          c.in_ok-all_seen.field-0.items c.in_ok-try_clone.ensures c.in_ok-unserved.ensures limit c.count-held.ensures
          c.in_ok-list_with_room.ensures.entries c.in_ok-all_seen.ensures)
          (first_keeps circuit c.args.properties.now c.args.workers c.args.limit given c.requires.ascend c.requires.properties
          c.requires.some_workers c.requires.few_workers few c.requires.given);
      room = c.in_ok-list_with_room.ensures.room;
      scratch = le_of_eq (sym c.in_ok-places.ensures);
    }
