use Rattle.std.proofs.Common.{◌≡◌, ◌∙◌, ap, subst}
use Rattle.wall_store.specs.Boards.{BoardState, IsBoard}
use Rattle.wall_store.specs.Events.{Looks, shown_to}
use Rattle.wall_ledger.specs.Turns.{HasLooked, IsRefused}
use Rattle.wall_ledger.specs.Rules.{shown_face, kept_face}
use Rattle.wall_ledger.specs.Hands.{face_in, board_in, ticket_in, pass_of, state_of}
use Rattle.wall_ledger.proofs.Ending.{to_state, has_looked, turn_with, mirror_copied, mirror_again, was_refused}
use Rattle.wall_ledger.proofs.pass.look_in.Goals as goal

pub returns-in-Ok-clause-ok : goal.returns-in-Ok-clause-ok
returns-in-Ok-clause-ok g c =
    let m = c.begin-ticket.new.hand in
    let b = c.begin-ticket.ensures in
    let x : c.begin-ticket.result.1 ≡ board_in m = b.found.1 in
    let event : Looks (board_in m) m.number c.look.result c.look.new.self =
    subst (λ (z : BoardState). Looks z m.number c.look.result c.look.new.self) x c.look.ensures in
    to_state HasLooked c.args.hand.now m
    (pass_of m.place.table_id (shown_face (face_in m) (shown_to (board_in m) m.number) (ticket_in m) (face_in m).marks)) (state_of c.end_look.new.hand)
    b.same b.face c.end_look.ensures.state
    (has_looked m b.turn ((face_in m).list, b.mirror) c.look.result c.look.new.self event (subst IsBoard x b.board) c.holds.ensures)

pub end_look-requires-clause-turn : goal.end_look-requires-clause-turn
end_look-requires-clause-turn g c = turn_with c.begin-ticket.new.hand c.copy_missing.new.entries c.begin-ticket.ensures.turn

pub end_look-requires-clause-mirror : goal.end_look-requires-clause-mirror
end_look-requires-clause-mirror g c =
    let m = c.begin-ticket.new.hand in
    let b = c.begin-ticket.ensures in
    let v = c.copy_missing.new.entries in
    let x : c.begin-ticket.result.1 ≡ board_in m = b.found.1 in
    mirror_copied m v b.turn b.mirror (subst IsBoard x b.board) (c.in-Ok.ensures.ok ∙ (c.entries.ensures.checked ∙ ap (λ (z : BoardState). z.entries) x)) c.copy_missing.ensures.room

pub end_rest-requires-clause-turn : goal.end_rest-requires-clause-turn
end_rest-requires-clause-turn g c = turn_with c.begin-ticket.new.hand c.copy_missing.new.entries c.begin-ticket.ensures.turn

pub end_rest-requires-clause-mirror : goal.end_rest-requires-clause-mirror
end_rest-requires-clause-mirror g c =
    mirror_again c.begin-ticket.new.hand c.copy_missing.new.entries c.begin-ticket.ensures.mirror c.in-Err.ensures.err c.copy_missing.ensures.room

pub returns-in-Err-clause-err : goal.returns-in-Err-clause-err
returns-in-Err-clause-err g c =
    let m = c.begin-ticket.new.hand in
    let b = c.begin-ticket.ensures in
    to_state (λ l p q. IsRefused p q) c.args.hand.now m (pass_of m.place.table_id (kept_face (face_in m) (face_in m).marks)) (state_of c.end_rest.new.hand) b.same b.face
    c.end_rest.ensures.state (was_refused m.place.table_id (face_in m))
