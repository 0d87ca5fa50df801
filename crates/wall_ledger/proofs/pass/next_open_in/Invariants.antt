use Rattle.std.proofs.Common.{[], ◌∷◌}
use Rattle.wall_ledger.specs.Turns.{marks_opened}
use Rattle.wall_ledger.specs.Rules.{kept_face}
use Rattle.wall_ledger.specs.Hands.{face_in}
use Rattle.wall_ledger.proofs.pass.next_open_in.Given as goal

abbrev pub ghosts-end_open : goal.ghosts-end_open
ghosts-end_open g a = record {
  after = kept_face (face_in a.hand.now) (marks_opened (face_in a.hand.now).marks a.least a.answer) ∷ [];
}
