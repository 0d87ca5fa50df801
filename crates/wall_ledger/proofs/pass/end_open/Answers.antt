use Rattle.std.proofs.Common.{ap}
use Rattle.wall_ledger.specs.Turns.{marks_opened}
use Rattle.wall_ledger.specs.Rules.{kept_face, added}
use Rattle.wall_ledger.specs.Hands.{face_in}
use Rattle.wall_ledger.proofs.Ending.{opens_end}
use Rattle.wall_ledger.proofs.pass.end_open.Goals as goal

pub end_as-requires-clause-next : goal.end_as-requires-clause-next
end_as-requires-clause-next g c =
    let m = c.args.hand.now in
    let f = face_in m in (
      kept_face f (marks_opened f.marks c.args.least c.args.answer),
      c.requires.picked,
      opens_end m c.requires.turn (f.list, c.requires.mirror) c.args.least c.args.answer c.args.board
          c.mark_opened.new.marks c.requires.event c.requires.mirror c.mark_opened.ensures,
      ap added c.requires.event.after,
    )
