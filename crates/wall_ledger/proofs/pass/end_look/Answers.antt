use Rattle.std.proofs.Common.{arith, ◌≤◌, ◌+◌, ℕ, ap, sym, subst}
use Rattle.wall_store.specs.Boards.{BoardState}
use Rattle.wall_store.specs.Events.{shown_to}
use Rattle.wall_ledger.specs.Rules.{shown_face, added}
use Rattle.wall_ledger.specs.Hands.{face_in, board_in, ticket_in, noting, IsEnding}
use Rattle.wall_ledger.proofs.Ending.{looks_end}
use Rattle.wall_ledger.proofs.pass.end_look.Goals as goal

pub overflow_add-hand : goal.overflow_add-hand
overflow_add-hand g c = let few : c.args.ticket ≤ 274877906944 = c.requires.ticket.1 in omega arith

pub end_as-requires-clause-next : goal.end_as-requires-clause-next
end_as-requires-clause-next g c =
    let m = c.args.hand.now in
    let f = face_in m in
    let y = shown_to (board_in m) m.number in (
      shown_face f y (ticket_in m) f.marks,
      c.requires.picked,
      subst (λ (z : ℕ × BoardState). IsEnding (noting m (z.0 + 1)) z.1 (shown_face f y (ticket_in m) f.marks))
          (λ i. (sym c.requires.ticket.0 i, sym c.requires.event i))
          (looks_end m c.requires.turn ((board_in m).entries, c.requires.mirror) c.requires.mirror),
      ap added c.requires.event,
    )
