use Rattle.std.proofs.Common.{Global, ℕ, ◌<◌, ◌≤◌, List, length, map, slice_set, slice_index_or, sym, ap, ◌∙◌, subst}
use Rattle.std.proofs.lemmas.List.{length-map}
use Rattle.std.specs.Arc.{arc_value}
use Rattle.std.specs.declared.sync.Arc.{Arc}
use Rattle.entry.specs.CheckedEntries.{CheckedEntry, HoldsWhereUsesStand, RefutationsStay}
use Rattle.wall_store.specs.declared.outcomes.Posted.{Posted}
use Rattle.wall_store.specs.Boards.{BoardState, IsBoard, plain}
use Rattle.wall_store.specs.Events.{MayPost, Posts, shown_to, with_post, entries_after, seen_by}
use Rattle.wall_store.specs.Scanning.{OfWork, IsScanned, all_settled}
use Rattle.wall_store.specs.Keeping.{seen_as}
use Rattle.wall_store.proofs.Kept.{posted_keeps, scanned_of, scanned_posted, scanned_room, after_same}
use Rattle.wall_store.proofs.board.Board.post.Goals as goal

-- what was scanned, of the board before
abbrev Scanned : BoardState → ℕ → CheckedEntry → Posted → Type 0
Scanned b w e r = OfWork e.origin (λ work. IsScanned (all_settled b.served) b.limit (plain b.entries) work.skeleton (seen_by b w) r)

pub put-requires : goal.put-requires
put-requires c =
    let b : BoardState = seen_as c.self.inside in
    let w = c.args.worker in
    let e : CheckedEntry = arc_value c.args.entry in
    let may : MayPost b w e = subst (λ (x : BoardState). MayPost x w e) (sym c.self.view_is) c.requires.may in
    let scanned : Scanned b w e c.answer_to_entry-answer.result =
    scanned_of e c.deref-6.result.now b.served c.deref-4.result.now b.limit c.self.inside.entries.items c.deref-5.result.now (seen_by b w)
    c.seen_by-low.result c.answer_to_entry-answer.result c.deref-6.ensures c.deref-4.ensures.value c.deref-5.ensures.value
    (c.seen_by-low.ensures ∙ ap (λ (s : List ℕ). slice_index_or s w 0) c.deref-3.ensures.value) c.answer_to_entry-answer.ensures.answer
    in
    scanned_room b w e c.answer_to_entry-answer.result _ (length c.self.inside.entries.items) may
    (sym (length-map c.self.inside.entries.items arc_value)) c.self.invariant.room scanned

pub invariant_of-self : goal.invariant_of-self
invariant_of-self c =
    let b : BoardState = seen_as c.self.inside in
    let w = c.args.worker in
    let e : CheckedEntry = arc_value c.args.entry in
    let r = c.answer_to_entry-answer.result in
    let may : MayPost b w e = subst (λ (x : BoardState). MayPost x w e) (sym c.self.view_is) c.requires.may in
    let below : w < b.workers = subst (λ (x : BoardState). w < x.workers) (sym c.self.view_is) c.requires.worker in
    let scanned : Scanned b w e r =
    scanned_of e c.deref-6.result.now b.served c.deref-4.result.now b.limit c.self.inside.entries.items c.deref-5.result.now (seen_by b w)
    c.seen_by-low.result r c.deref-6.ensures c.deref-4.ensures.value c.deref-5.ensures.value
    (c.seen_by-low.ensures ∙ ap (λ (s : List ℕ). slice_index_or s w 0) c.deref-3.ensures.value) c.answer_to_entry-answer.ensures.answer
    in
    let stands : HoldsWhereUsesStand e = subst HoldsWhereUsesStand c.deref.ensures c.holds_where_uses_stand.ensures in
    let stay : RefutationsStay b.circuit = subst RefutationsStay c.deref-2.ensures c.older_views.ensures.refutations in
    let count = c.count.ensures ∙ ap (λ (xs : List (Arc CheckedEntry Global)). length (map (λ (x : Arc CheckedEntry Global). arc_value {X = CheckedEntry} x) xs)) c.deref-7.ensures.value in
    let after : IsBoard (shown_to (with_post b e r) w) =
    posted_keeps b w e r c.self.invariant.board below stands stay may (scanned_posted b w e r c.self.invariant.board below may scanned)
    in
    record {
      board = subst IsBoard (after_same b w c.count.result _ (entries_after b.entries e r) c.put.ensures.entries count) after;
      room = subst (λ (n : ℕ). b.limit ≤ n) (sym c.put.ensures.room) c.self.invariant.room;
      scratch = subst (λ (n : ℕ). b.limit ≤ n) (sym c.answer_to_entry-answer.ensures.room) c.self.invariant.scratch;
    }

pub returns : goal.returns
returns c =
    let b : BoardState = seen_as c.self.inside in
    let w = c.args.worker in
    let e : CheckedEntry = arc_value c.args.entry in
    let r = c.answer_to_entry-answer.result in
    let may : MayPost b w e = subst (λ (x : BoardState). MayPost x w e) (sym c.self.view_is) c.requires.may in
    let below : w < b.workers = subst (λ (x : BoardState). w < x.workers) (sym c.self.view_is) c.requires.worker in
    let scanned : Scanned b w e r =
    scanned_of e c.deref-6.result.now b.served c.deref-4.result.now b.limit c.self.inside.entries.items c.deref-5.result.now (seen_by b w)
    c.seen_by-low.result r c.deref-6.ensures c.deref-4.ensures.value c.deref-5.ensures.value
    (c.seen_by-low.ensures ∙ ap (λ (s : List ℕ). slice_index_or s w 0) c.deref-3.ensures.value) c.answer_to_entry-answer.ensures.answer
    in
    let count = c.count.ensures ∙ ap (λ (xs : List (Arc CheckedEntry Global)). length (map (λ (x : Arc CheckedEntry Global). arc_value {X = CheckedEntry} x) xs)) c.deref-7.ensures.value in
    let entries : List CheckedEntry = map arc_value c.put.new.entries.items in
    let later : BoardState = record b { entries = entries; seen = slice_set b.seen w c.count.result } in
    subst (λ (x : BoardState). Posts x w e r later) c.self.view_is
    (record {
      answer = scanned_posted b w e r c.self.invariant.board below may scanned;
      after = sym (after_same b w c.count.result entries (entries_after b.entries e r) c.put.ensures.entries count);
    })
