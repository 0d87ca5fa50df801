use Rattle.std.proofs.Common.{arith, ◌≡◌, ◌≤◌, ◌+◌, ◌∙◌, ℕ, List, map, ap, sym, subst}
use Rattle.std.specs.Arc.{arc_value}
use Rattle.entry.specs.CheckedEntries.{CheckedEntry}
use Rattle.wall_store.specs.Events.{entries_after}
use Rattle.wall_ledger.specs.Turns.{marks_posted}
use Rattle.wall_ledger.specs.Rules.{shown_face}
use Rattle.wall_ledger.specs.Hands.{face_in, board_in, ticket_in, IsEnding}
use Rattle.wall_ledger.proofs.Posting.{posts_end, room_there, longer_after, same_after, few_added}
use Rattle.wall_ledger.proofs.pass.end_post.Goals as goal

pub overflow_add-hand : goal.overflow_add-hand
overflow_add-hand g c = let few : c.args.ticket ≤ 274877906944 = c.requires.ticket.1 in omega arith

pub keep-requires : goal.keep-requires
keep-requires g c =
    room_there c.args.hand.now c.args.hand.now.number (arc_value c.args.entry) c.args.answer c.args.board c.requires.turn c.requires.mirror c.requires.event

pub end_longer_as-requires-clause-next : goal.end_longer_as-requires-clause-next
end_longer_as-requires-clause-next g c =
    let m = c.args.hand.now in
    let e = arc_value c.args.entry in
    let r = c.args.answer in
    let y = c.args.board in
    let f = shown_face (face_in m) y (ticket_in m) (marks_posted (face_in m).marks r) in
    let listed : map arc_value c.keep.new.entries.items ≡ entries_after (board_in m).entries e r =
    c.keep.ensures.entries ∙ ap (λ (l : List CheckedEntry). entries_after l e r) (sym c.requires.mirror.list) in (
      f,
      c.requires.picked,
      subst (λ (t : ℕ). IsEnding (record m { entries = c.keep.new.entries; stamp = t + 1; turns = m.turns + 1; marks = c.mark_posted.new.marks }) y f)
          (sym c.requires.ticket.0)
          (posts_end m c.requires.turn c.requires.mirror e r y c.requires.may c.requires.turned c.requires.event c.keep.new.entries c.mark_posted.new.marks
          listed c.keep.ensures.room c.mark_posted.ensures c.requires.boards.1),
      longer_after (board_in m) y m.number e r (sym c.is_appended.ensures ∙ c.if-is_appended.true) c.requires.boards.0 c.requires.event.after,
      few_added y c.requires.boards.1,
    )

pub end_as-requires-clause-next : goal.end_as-requires-clause-next
end_as-requires-clause-next g c =
    let m = c.args.hand.now in
    let e = arc_value c.args.entry in
    let r = c.args.answer in
    let y = c.args.board in
    let f = shown_face (face_in m) y (ticket_in m) (marks_posted (face_in m).marks r) in
    let listed : map arc_value c.keep.new.entries.items ≡ entries_after (board_in m).entries e r =
    c.keep.ensures.entries ∙ ap (λ (l : List CheckedEntry). entries_after l e r) (sym c.requires.mirror.list) in (
      f,
      c.requires.picked,
      subst (λ (t : ℕ). IsEnding (record m { entries = c.keep.new.entries; stamp = t + 1; turns = m.turns + 1; marks = c.mark_posted.new.marks }) y f)
          (sym c.requires.ticket.0)
          (posts_end m c.requires.turn c.requires.mirror e r y c.requires.may c.requires.turned c.requires.event c.keep.new.entries c.mark_posted.new.marks
          listed c.keep.ensures.room c.mark_posted.ensures c.requires.boards.1),
      same_after (board_in m) y m.number e r (sym c.is_appended.ensures ∙ c.if-is_appended.false) c.requires.event.after,
    )
