use Rattle.std.proofs.Common.{[], ◌∷◌}
use Rattle.wall_store.specs.Events.{shown_to}
use Rattle.wall_ledger.specs.Rules.{kept_face, shown_face}
use Rattle.wall_ledger.specs.Hands.{face_in, board_in, ticket_in}
use Rattle.wall_ledger.proofs.pass.look_in.Given as goal

abbrev pub ghosts-end_look : goal.ghosts-end_look
ghosts-end_look g a = record {
  after = shown_face (face_in a.hand.now) (shown_to (board_in a.hand.now) a.hand.now.number) (ticket_in a.hand.now) (face_in a.hand.now).marks ∷ [];
}

abbrev pub ghosts-end_rest : goal.ghosts-end_rest
ghosts-end_rest g a = record { after = kept_face (face_in a.hand.now) (face_in a.hand.now).marks ∷ [] }
