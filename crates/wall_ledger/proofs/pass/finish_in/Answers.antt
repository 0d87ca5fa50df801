use Rattle.std.proofs.Common.{◌≡◌, ap, ◌∙◌, sym, subst}
use Rattle.std.specs.List.{Contains}
use Rattle.wall_store.specs.declared.outcomes.Outcome.{Outcome}
use Rattle.wall_store.specs.Boards.{BoardState, IsBoard, properties_of}
use Rattle.wall_store.specs.Events.{Finishes}
use Rattle.wall_ledger.specs.Turns.{HasFinished, marks_finished}
use Rattle.wall_ledger.specs.Rules.{kept_face}
use Rattle.wall_ledger.specs.Hands.{face_in, board_in, pass_of, state_of}
use Rattle.wall_ledger.proofs.Ending.{to_state, has_finished}
use Rattle.wall_ledger.proofs.pass.finish_in.Goals as goal

pub returns-clause-finished : goal.returns-clause-finished
returns-clause-finished g c =
    let m = c.begin-ticket.new.hand in
    let b = c.begin-ticket.ensures in
    let j = c.args.property in
    let o = c.args.outcome in
    let r = c.finish-answer.result in
    let y = c.finish-answer.new.self in
    let x : c.begin-ticket.result.1 ≡ board_in m = b.found.1 in
    let event : Finishes (board_in m) j o r y = subst (λ (z : BoardState). Finishes z j o r y) x c.finish-answer.ensures in
    let served : Contains (properties_of m.first.value.value.served) j = subst (λ z. Contains (properties_of z.value.value.served) j) (sym b.same.1) c.requires.served in
    to_state (λ l p q. HasFinished l p j o r q) c.args.hand.now m
    (pass_of m.place.table_id (kept_face (face_in m) (marks_finished (face_in m).marks j o r))) (state_of c.end_finish.new.hand) b.same b.face
    (c.end_finish.ensures.state ∙ ap (λ (p : Outcome). pass_of m.place.table_id (kept_face (face_in m) (marks_finished (face_in m).marks j p r))) c.of-kept.ensures)
    (has_finished m b.turn ((face_in m).list, b.mirror) j o r y served event (subst IsBoard x b.board) c.holds.ensures)
