use Rattle.std.proofs.Common.{◌≡◌, ◌<◌, ◌≤◌, List, ◌∷◌, ◌++◌, length, sym, ap, ◌∙◌, subst, arith}
use Rattle.std.specs.List.{remove}
use Rattle.atomic_table.specs.Seated.{TableId}
use Rattle.wall_store.specs.Boards.{BoardState}
use Rattle.wall_ledger.specs.Passes.{PassState, LedgerState}
use Rattle.wall_ledger.specs.Turns.{AreAll, IsClosed}
use Rattle.wall_ledger.specs.Tickets.{IsLast, view_of}
use Rattle.wall_ledger.specs.Rules.{Face, Kept, HasNumber}
use Rattle.wall_ledger.specs.Seats.{face_of, faces_of}
use Rattle.wall_ledger.specs.Hands.{ledger_of}
use Rattle.wall_ledger.proofs.Seating.{alone}
use Rattle.wall_ledger.proofs.Closing.{all_numbered, closes, first_and_rest, some_pass}
use Rattle.wall_ledger.proofs.ledger.Ledger.close.Goals as goal

pub remove-first-requires : goal.remove-first-requires
remove-first-requires c =
    let staffed : 1 ≤ c.args.self.workers = subst (λ (l : LedgerState). 1 ≤ l.workers) c.self.view_is c.self.invariant.workers in
    let some : 0 < length c.args.passes.items = some_pass c.args.self c.args.passes.items staffed c.requires.all in
    omega (arith, c.args.passes.ok.0)

pub close-board-requires-clause-alone : goal.close-board-requires-clause-alone
close-board-requires-clause-alone c =
    let lock : TableId = c.self.inside.gate.table.shared.table_id in
    let key : BoardState = c.self.inside.gate.table.shared.key.value in
    let ps : List PassState = c.args.passes.items in
    let staffed : 1 ≤ c.args.self.workers = subst (λ (l : LedgerState). 1 ≤ l.workers) c.self.view_is c.self.invariant.workers in
    let some : 0 < length ps = some_pass c.args.self ps staffed c.requires.all in
    let all : AreAll (ledger_of lock key) ps = subst (λ (l : LedgerState). AreAll l ps) (sym c.self.view_is) c.requires.all in
    let whole : view_of c.gather.new.place ≡ faces_of ps =
    c.gather.ensures.faces
    ∙ ((λ i. c.into_seat-place.ensures.faces i ++ faces_of (c.remove-first.ensures.items i))
    ∙ (ap (λ (p : PassState). face_of p ∷ faces_of (remove ps 0)) c.remove-first.ensures.value ∙ first_and_rest ps c.remove-first.result some)) in
    alone key c.gather.new.place.id (view_of c.gather.new.place)
    (λ k below. subst (HasNumber k) (sym whole) (all_numbered lock key ps all k below))

pub returns : goal.returns
returns c =
    let lock : TableId = c.self.inside.gate.table.shared.table_id in
    let key : BoardState = c.self.inside.gate.table.shared.key.value in
    let ps : List PassState = c.args.passes.items in
    let staffed : 1 ≤ c.args.self.workers = subst (λ (l : LedgerState). 1 ≤ l.workers) c.self.view_is c.self.invariant.workers in
    let some : 0 < length ps = some_pass c.args.self ps staffed c.requires.all in
    let all : AreAll (ledger_of lock key) ps = subst (λ (l : LedgerState). AreAll l ps) (sym c.self.view_is) c.requires.all in
    let whole : view_of c.gather.new.place ≡ faces_of ps =
    c.gather.ensures.faces
    ∙ ((λ i. c.into_seat-place.ensures.faces i ++ faces_of (c.remove-first.ensures.items i))
    ∙ (ap (λ (p : PassState). face_of p ∷ faces_of (remove ps 0)) c.remove-first.ensures.value ∙ first_and_rest ps c.remove-first.result some)) in
    let last : IsLast (Kept key) c.gather.new.place.id (faces_of ps) c.close-board.result =
    subst (λ (v : List Face). IsLast (Kept key) c.gather.new.place.id v c.close-board.result) whole c.close-board.ensures in
    subst (λ (l : LedgerState). IsClosed l ps c.close-board.result) c.self.view_is
    (closes lock key c.close-board.result c.gather.new.place.id ps c.holds.ensures all last)
