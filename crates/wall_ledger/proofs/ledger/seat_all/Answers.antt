use Rattle.std.proofs.Common.{◌≡◌, [], ◌∷◌, ◌++◌, rules, length, map, sym, ap, ◌∙◌, arith}
use Rattle.std.proofs.lemmas.List.{length-map}
use Rattle.std.specs.Arc.{arc_value}
use Rattle.wall_ledger.specs.Shows.{blank_shown}
use Rattle.wall_ledger.specs.Hands.{state_of, ledger_of}
use Rattle.wall_ledger.proofs.NewPasses.{new_next}
use Rattle.wall_ledger.proofs.ledger.seat_all.Goals as goal

pub given_with_room-requires : goal.given_with_room-requires
given_with_room-requires c =
    let a = c.requires.start.board.within in
    let e = ap length c.requires.given in
    let l = length-map c.args.given.now arc_value in
    let m = c.requires.limit in omega arith

pub seat_hand-hand-requires-clause-budget : goal.seat_hand-hand-requires-clause-budget
seat_hand-hand-requires-clause-budget c =
    let few = c.requires.start.board.few_workers in
    let w = c.requires.workers in
    let b = c.loop-number.invariant.budget in omega arith

pub seat_hand-hand-requires-clause-entries : goal.seat_hand-hand-requires-clause-entries
seat_hand-hand-requires-clause-entries c = c.in_ok-entries.ensures.entries ∙ sym c.requires.given

pub seat_hand-hand-requires-clause-marks : goal.seat_hand-hand-requires-clause-marks
seat_hand-hand-requires-clause-marks c = c.in_ok-marks.ensures ∙ ap (map blank_shown) (sym c.requires.properties)

pub loop-number-preserved : goal.loop-number-preserved
loop-number-preserved c =
    let inv = c.loop-number.invariant in
    let hand = c.seat_hand-hand.ensures in
    let pushed : c.push.new.self.items ≡ c.loop-number.passes.items ++ state_of c.seat_hand-hand.result ∷ [] = search rules in
    record {
      own = hand.same.0 ∙ inv.own;
      idle = hand.idle;
      faces = hand.faces;
      budget = (let a = hand.budget in let b = inv.budget in omega arith);
      passes = pushed ∙ new_next (ledger_of c.args.gate.now.table.shared.table_id c.args.first.now.value) c.loop-number.number c.loop-number.passes.items
          (state_of c.seat_hand-hand.result) inv.passes hand.state;
    }
