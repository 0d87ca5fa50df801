use Rattle.std.proofs.Common.{[], ◌∷◌}
use Rattle.wall_ledger.specs.Turns.{marks_finished}
use Rattle.wall_ledger.specs.Rules.{kept_face}
use Rattle.wall_ledger.specs.Hands.{face_in}
use Rattle.wall_ledger.proofs.pass.finish_in.Given as goal

abbrev pub ghosts-end_finish : goal.ghosts-end_finish
ghosts-end_finish g a = record {
  after = kept_face (face_in a.hand.now) (marks_finished (face_in a.hand.now).marks a.property a.outcome.now.value a.answer) ∷ [];
}
