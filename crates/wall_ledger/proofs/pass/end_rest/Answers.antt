use Rattle.std.proofs.Common.{ap, sym, subst}
use Rattle.wall_store.specs.Boards.{BoardState}
use Rattle.wall_ledger.specs.Rules.{kept_face, added}
use Rattle.wall_ledger.specs.Hands.{face_in, noting, IsEnding}
use Rattle.wall_ledger.proofs.Ending.{rests_end}
use Rattle.wall_ledger.proofs.pass.end_rest.Goals as goal

pub end_as-requires-clause-next : goal.end_as-requires-clause-next
end_as-requires-clause-next g c =
    let m = c.args.hand.now in
    let f = face_in m in (
      kept_face f f.marks,
      c.requires.picked,
      subst (λ (y : BoardState). IsEnding (noting m m.stamp) y (kept_face f f.marks)) (sym c.requires.board)
          (rests_end m c.requires.turn (f.list, c.requires.mirror) c.requires.mirror),
      ap added c.requires.board,
    )
