use Rattle.std.proofs.Common.{◌≡◌, ◌∙◌, sym, ap, subst}
use Rattle.std.specs.Arc.{arc_value}
use Rattle.entry.specs.CheckedEntries.{CheckedEntry}
use Rattle.wall_store.specs.Boards.{BoardState, IsBoard, FromWorker}
use Rattle.wall_store.specs.Events.{MayPost, Posts}
use Rattle.wall_ledger.specs.Passes.{IsPassPost, MayPassPost}
use Rattle.wall_ledger.specs.Turns.{HasPosted, IsRefused, marks_posted}
use Rattle.wall_ledger.specs.Rules.{shown_face, kept_face}
use Rattle.wall_ledger.specs.Hands.{face_in, board_in, ticket_in, pass_of, state_of, ledger_of}
use Rattle.wall_ledger.proofs.Ending.{to_state, from_state, turn_with, mirror_copied, mirror_again, was_refused}
use Rattle.wall_ledger.proofs.Posting.{may_post, worker_map, has_posted}
use Rattle.wall_ledger.proofs.pass.post_in.Goals as goal

pub post-answer-requires-clause-may : goal.post-answer-requires-clause-may
post-answer-requires-clause-may g c =
    let m = c.begin-ticket.new.hand in
    let b = c.begin-ticket.ensures in
    let e = arc_value c.args.entry.now in
    let here = from_state (λ l p. MayPassPost l p e) c.args.hand.now m b.same b.face c.requires.may in
    let theirs : arc_value c.in_ok-theirs.theirs ≡ e = c.in_ok-theirs.ensures in
    subst (λ (z : BoardState × CheckedEntry). MayPost z.0 m.number z.1) (λ i. (sym b.found.1 i, sym theirs i))
    (may_post m b.turn ((face_in m).list, b.mirror) e c.older_views.ensures.stand here)

pub end_post-requires-clause-boards : goal.end_post-requires-clause-boards
end_post-requires-clause-boards g c = (subst IsBoard c.begin-ticket.ensures.found.1 c.begin-ticket.ensures.board, c.holds.ensures)

pub end_post-requires-clause-may : goal.end_post-requires-clause-may
end_post-requires-clause-may g c =
    let m = c.begin-ticket.new.hand in
    let b = c.begin-ticket.ensures in
    let e = arc_value c.args.entry.now in
    let here = from_state (λ l p. MayPassPost l p e) c.args.hand.now m b.same b.face c.requires.may in
    let mine : arc_value c.in_ok-mine.mine ≡ e = c.in_ok-mine.ensures in
    subst (MayPost (board_in m) m.number) (sym mine) (may_post m b.turn ((face_in m).list, b.mirror) e c.older_views.ensures.stand here)

pub end_post-requires-clause-turned : goal.end_post-requires-clause-turned
end_post-requires-clause-turned g c =
    let m = c.begin-ticket.new.hand in
    let b = c.begin-ticket.ensures in
    let e = arc_value c.args.entry.now in
    let here = from_state (λ l p. MayPassPost l p e) c.args.hand.now m b.same b.face c.requires.may in
    let mine : arc_value c.in_ok-mine.mine ≡ e = c.in_ok-mine.ensures in
    subst (λ (z : CheckedEntry). FromWorker z.origin (λ work. work.turn ≡ (face_in m).turns)) (sym mine)
    (worker_map e.origin (IsPassPost (ledger_of m.place.table_id m.first.value.value) (pass_of m.place.table_id (face_in m)) e)
    (λ work. work.turn ≡ (face_in m).turns) (λ work p. p.turn) here)

pub end_post-requires-clause-event : goal.end_post-requires-clause-event
end_post-requires-clause-event g c =
    let m = c.begin-ticket.new.hand in
    let b = c.begin-ticket.ensures in
    let e = arc_value c.args.entry.now in
    let mine : arc_value c.in_ok-mine.mine ≡ e = c.in_ok-mine.ensures in
    let theirs : arc_value c.in_ok-theirs.theirs ≡ e = c.in_ok-theirs.ensures in
    subst (λ (z : BoardState × CheckedEntry). Posts z.0 m.number z.1 c.post-answer.result c.post-answer.new.self)
    (λ i. (b.found.1 i, (theirs ∙ sym mine) i)) c.post-answer.ensures

pub end_post-requires-clause-turn : goal.end_post-requires-clause-turn
end_post-requires-clause-turn g c = turn_with c.begin-ticket.new.hand c.copy_missing.new.entries c.begin-ticket.ensures.turn

pub end_post-requires-clause-mirror : goal.end_post-requires-clause-mirror
end_post-requires-clause-mirror g c =
    let m = c.begin-ticket.new.hand in
    let b = c.begin-ticket.ensures in
    let v = c.copy_missing.new.entries in
    let x : c.begin-ticket.result.1 ≡ board_in m = b.found.1 in
    mirror_copied m v b.turn b.mirror (subst IsBoard x b.board) (c.in-Ok.ensures.ok ∙ (c.entries.ensures.checked ∙ ap (λ (z : BoardState). z.entries) x)) c.copy_missing.ensures.room

pub end_rest-requires-clause-turn : goal.end_rest-requires-clause-turn
end_rest-requires-clause-turn g c = turn_with c.begin-ticket.new.hand c.copy_missing.new.entries c.begin-ticket.ensures.turn

pub end_rest-requires-clause-mirror : goal.end_rest-requires-clause-mirror
end_rest-requires-clause-mirror g c =
    mirror_again c.begin-ticket.new.hand c.copy_missing.new.entries c.begin-ticket.ensures.mirror c.in-Err.ensures.err c.copy_missing.ensures.room

pub returns-in-Err-clause-err : goal.returns-in-Err-clause-err
returns-in-Err-clause-err g c =
    let m = c.begin-ticket.new.hand in
    let b = c.begin-ticket.ensures in
    to_state (λ l p q. IsRefused p q) c.args.hand.now m (pass_of m.place.table_id (kept_face (face_in m) (face_in m).marks)) (state_of c.end_rest.new.hand) b.same b.face
    c.end_rest.ensures.state (was_refused m.place.table_id (face_in m))

pub returns-in-Ok-clause-ok : goal.returns-in-Ok-clause-ok
returns-in-Ok-clause-ok g c =
    let m = c.begin-ticket.new.hand in
    let b = c.begin-ticket.ensures in
    let v = c.copy_missing.new.entries in
    let x : c.begin-ticket.result.1 ≡ board_in m = b.found.1 in
    let e = arc_value c.args.entry.now in
    let r = c.post-answer.result in
    let y = c.post-answer.new.self in
    let here = from_state (λ l p. MayPassPost l p e) c.args.hand.now m b.same b.face c.requires.may in
    let theirs : arc_value c.in_ok-theirs.theirs ≡ e = c.in_ok-theirs.ensures in
    let board : IsBoard (board_in m) = subst IsBoard x b.board in
    let event : Posts (board_in m) m.number e r y =
    subst (λ (z : BoardState × CheckedEntry). Posts z.0 m.number z.1 r y) (λ i. (x i, theirs i)) c.post-answer.ensures in
    to_state (λ l p q. HasPosted l p e r q) c.args.hand.now m
    (pass_of m.place.table_id (shown_face (face_in m) y (ticket_in m) (marks_posted (face_in m).marks r))) (state_of c.end_post.new.hand) b.same b.face
    c.end_post.ensures.state
    (has_posted (record m { entries = v }) (turn_with m v b.turn)
    (mirror_copied m v b.turn b.mirror board (c.in-Ok.ensures.ok ∙ (c.entries.ensures.checked ∙ ap (λ (z : BoardState). z.entries) x)) c.copy_missing.ensures.room) e r y
    (may_post m b.turn ((face_in m).list, b.mirror) e c.older_views.ensures.stand here)
    (worker_map e.origin (IsPassPost (ledger_of m.place.table_id m.first.value.value) (pass_of m.place.table_id (face_in m)) e)
    (λ work. work.turn ≡ (face_in m).turns) (λ work p. p.turn) here)
    event board c.holds.ensures)
