use Rattle.std.proofs.Common.{ap}
use Rattle.wall_ledger.specs.Turns.{marks_finished}
use Rattle.wall_ledger.specs.Rules.{kept_face, added}
use Rattle.wall_ledger.specs.Hands.{face_in}
use Rattle.wall_ledger.proofs.Ending.{finishes_end}
use Rattle.wall_ledger.proofs.pass.end_finish.Goals as goal

pub end_as-requires-clause-next : goal.end_as-requires-clause-next
end_as-requires-clause-next g c =
    let m = c.args.hand.now in
    let f = face_in m in (
      kept_face f (marks_finished f.marks c.args.property c.args.outcome.now.value c.args.answer),
      c.requires.picked,
      finishes_end m c.requires.turn (f.list, c.requires.mirror) c.args.property c.args.outcome.now.value c.args.answer c.args.board
          c.mark_finished.new.marks c.requires.served c.requires.event c.requires.mirror c.mark_finished.ensures,
      ap added c.requires.event.after,
    )
