use Rattle.std.proofs.Common.{arith, ◌≡◌, ℕ, sym, ap, ◌∙◌, subst}
use Rattle.wall_ledger.specs.Tickets.{Turns}
use Rattle.wall_ledger.proofs.Tickets.{passes}
use Rattle.wall_ledger.proofs.lock.Lock.leave.Goals as goal

pub fetch_add-requires : goal.fetch_add-requires
fetch_add-requires g c =
    let old = c.args.place.now in
    let place = c.lay.new.place in
    let lock = c.args.self.now in
    let words : lock.table.shared.table_id.words ≡ 3 = lock.sized.0 in
    let holds = g.P.Rule.holds lock.table.shared.key in
    let turn = c.requires.turn in
    let full = c.lay.ensures.full in
    let same = c.lay.ensures.same in (
      same.0 ∙ c.requires.own,
      omega arith,
      passes g.P.Rule.size g.P.Rule.active holds lock.table.shared.table_id.slots place.id place.me turn.0 turn.1 c.args.value g.J.After.after
          (ap (λ m. m.0.stage) full ∙ turn.2) (ap (λ m. m.1) full) turn.4
          (subst (λ (z : ℕ × g.row.V.Denot). Turns holds z.0 z.1 turn.0 turn.1 c.args.value g.J.After.after)
          (λ i. (sym same.1 i, sym (ap (λ m. m.0.client) full) i)) turn.5),
    )
