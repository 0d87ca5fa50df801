use Rattle.std.proofs.Common.{◌≡◌, ◌<◌, ◌++◌, List, [], ◌∷◌, length, sym, ap, ◌∙◌, subst, arith, append-nil, append_assoc}
use Rattle.std.specs.List.{All, remove}
use Rattle.wall_ledger.specs.Passes.{PassState}
use Rattle.wall_ledger.specs.Rules.{Face}
use Rattle.wall_ledger.specs.Seats.{face_of, faces_of}
use Rattle.wall_ledger.specs.Tickets.{view_of}
use Rattle.wall_ledger.proofs.Seating.{merges}
use Rattle.wall_ledger.proofs.Closing.{first_and_rest, locks_rest, one_less, none_left}
use Rattle.wall_ledger.proofs.ledger.gather.Goals as goal

pub remove-pass-requires : goal.remove-pass-requires
remove-pass-requires c =
    let left = c.loop-number.invariant.left in
    omega (arith, c.loop-number.rest.ok.0, c.args.passes.ok.0)

pub join-requires-clause-own : goal.join-requires-clause-own
join-requires-clause-own c = c.loop-number.invariant.own ∙ c.requires.own

pub join-requires-clause-other : goal.join-requires-clause-other
join-requires-clause-other c =
    let left = c.loop-number.invariant.left in
    let here : 0 < length c.loop-number.rest.items = omega (arith, c.loop-number.rest.ok.0, c.args.passes.ok.0) in
    let r = c.remove-pass.result in
    c.into_seat-seat.ensures.own
    ∙ subst (λ (p : PassState). p.home.lock ≡ c.args.gate.now.table.shared.table_id) (sym c.remove-pass.ensures.value) (c.loop-number.invariant.locks 0 r here)

pub join-requires-clause-idle : goal.join-requires-clause-idle
join-requires-clause-idle c = (c.loop-number.invariant.idle, c.into_seat-seat.ensures.idle)

pub join-requires-clause-merges : goal.join-requires-clause-merges
join-requires-clause-merges c =
    merges c.args.gate.now.table.shared.key.value c.loop-number.place.id c.into_seat-seat.result.id c.loop-number.place.me.0.client c.into_seat-seat.result.me.0.client

pub loop-number-preserved : goal.loop-number-preserved
loop-number-preserved c =
    let inv = c.loop-number.invariant in
    let ps : List PassState = c.loop-number.rest.items in
    let r : PassState = c.remove-pass.result in
    let left = inv.left in
    let here : 0 < length ps = omega (arith, c.loop-number.rest.ok.0, c.args.passes.ok.0) in
    let items : c.remove-pass.new.self.items ≡ remove ps 0 = c.remove-pass.ensures.items in
    let split : face_of r ∷ faces_of (remove ps 0) ≡ faces_of ps =
    ap (λ (p : PassState). face_of p ∷ faces_of (remove ps 0)) c.remove-pass.ensures.value ∙ first_and_rest ps r here in
    record {
      own = c.join.ensures.same.0 ∙ inv.own;
      idle = (ap (λ z. z.0.stage) c.join.ensures.whole, ap (λ z. z.1) c.join.ensures.whole);
      faces =
          ap (λ (v : List Face). v ++ faces_of c.remove-pass.new.self.items)
          (ap (λ z. z.0.client) c.join.ensures.whole ∙ ap (λ (v : List Face). view_of c.loop-number.place ++ v) c.into_seat-seat.ensures.faces)
          ∙ (append_assoc (view_of c.loop-number.place) (face_of r ∷ []) (faces_of c.remove-pass.new.self.items)
          ∙ (ap (λ (qs : List PassState). view_of c.loop-number.place ++ face_of r ∷ faces_of qs) items
          ∙ (ap (λ (v : List Face). view_of c.loop-number.place ++ v) split ∙ inv.faces)));
      left = (let a = one_less ps here in let b = ap length items in omega arith);
      locks = subst (All (λ p. p.home.lock ≡ c.args.gate.now.table.shared.table_id)) (sym items) (locks_rest c.args.gate.now.table.shared.table_id ps inv.locks);
    }

pub returns-clause-faces : goal.returns-clause-faces
returns-clause-faces c =
    let inv = c.loop-number.invariant in
    let left = inv.left in
    let none : c.loop-number.rest.items ≡ [] = none_left c.loop-number.rest.items (omega (arith, c.loop-number.rest.ok.0, c.args.passes.ok.0)) in
    sym (ap (λ (qs : List PassState). view_of c.loop-number.place ++ faces_of qs) none ∙ append-nil (view_of c.loop-number.place)) ∙ inv.faces
