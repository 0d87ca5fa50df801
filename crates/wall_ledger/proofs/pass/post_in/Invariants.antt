use Rattle.std.proofs.Common.{[], ◌∷◌}
use Rattle.wall_ledger.specs.Turns.{marks_posted}
use Rattle.wall_ledger.specs.Rules.{kept_face, shown_face}
use Rattle.wall_ledger.specs.Hands.{face_in, ticket_in}
use Rattle.wall_ledger.proofs.pass.post_in.Given as goal

abbrev pub ghosts-end_post : goal.ghosts-end_post
ghosts-end_post g a = record {
  after = shown_face (face_in a.hand.now) a.board (ticket_in a.hand.now) (marks_posted (face_in a.hand.now).marks a.answer) ∷ [];
}

abbrev pub ghosts-end_rest : goal.ghosts-end_rest
ghosts-end_rest g a = record { after = kept_face (face_in a.hand.now) (face_in a.hand.now).marks ∷ [] }
