use Rattle.std.proofs.Common.{◌≡◌, subst}
use Rattle.wall_store.specs.Boards.{BoardState, IsBoard}
use Rattle.wall_store.specs.Events.{OpensNext}
use Rattle.wall_ledger.specs.Turns.{HasOpened, marks_opened}
use Rattle.wall_ledger.specs.Rules.{kept_face}
use Rattle.wall_ledger.specs.Hands.{face_in, board_in, pass_of, state_of}
use Rattle.wall_ledger.proofs.Ending.{to_state, has_opened}
use Rattle.wall_ledger.proofs.pass.next_open_in.Goals as goal

pub returns-clause-opened : goal.returns-clause-opened
returns-clause-opened g c =
    let m = c.begin-ticket.new.hand in
    let b = c.begin-ticket.ensures in
    let r = c.next_open-answer.result in
    let y = c.next_open-answer.new.self in
    let x : c.begin-ticket.result.1 ≡ board_in m = b.found.1 in
    let event : OpensNext (board_in m) c.args.from r y = subst (λ (z : BoardState). OpensNext z c.args.from r y) x c.next_open-answer.ensures in
    to_state (λ l p q. HasOpened l p c.args.from r q) c.args.hand.now m
    (pass_of m.place.table_id (kept_face (face_in m) (marks_opened (face_in m).marks c.args.from r))) (state_of c.end_open.new.hand) b.same b.face
    c.end_open.ensures.state
    (has_opened m b.turn ((face_in m).list, b.mirror) c.args.from r y event (subst IsBoard x b.board) c.holds.ensures)
