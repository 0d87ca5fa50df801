use Rattle.std.proofs.Common.{arith, ◌≡◌, ℕ, sym, ap, ◌∙◌, subst}
use Rattle.wall_ledger.specs.declared.lock.Stage.TheVariants.{Raised}
use Rattle.wall_ledger.specs.Tickets.{Turns, raise_of}
use Rattle.wall_ledger.proofs.Tickets.{passes_raised}
use Rattle.wall_ledger.proofs.lock.Lock.leave_longer.Goals as goal

pub fetch_add-requires : goal.fetch_add-requires
fetch_add-requires g c =
    let old = c.args.place.now in
    let laid = c.lay.new.place in
    let place = c.raise.new.place in
    let lock = c.args.self.now in
    let words : lock.table.shared.table_id.words ≡ 3 = lock.sized.0 in
    let holds = g.P.Rule.holds lock.table.shared.key in
    let turn = c.requires.turn in
    let full = c.lay.ensures.full in
    let raised = c.raise.ensures.raised in
    let id : place.id ≡ old.id = c.raise.ensures.same.1 ∙ c.lay.ensures.same.1 in
    let client : place.me.0.client ≡ old.me.0.client = ap (λ m. m.0.client) raised ∙ ap (λ m. m.0.client) full in
    let stage : place.me.0.stage ≡ Raised turn.0 turn.1 = ap (λ m. m.0.stage) raised ∙ ap raise_of (ap (λ m. m.0.stage) full ∙ turn.2) in (
      c.raise.ensures.same.0 ∙ (c.lay.ensures.same.0 ∙ c.requires.own),
      omega arith,
      passes_raised g.P.Rule.size g.P.Rule.active holds lock.table.shared.table_id.slots place.id place.me turn.0 turn.1 c.args.value g.J.After.after
          stage (ap (λ m. m.1) raised ∙ ap (λ m. m.1) full) turn.4
          (subst (λ (z : ℕ × g.row.V.Denot). Turns holds z.0 z.1 turn.0 turn.1 c.args.value g.J.After.after)
          (λ i. (sym id i, sym client i)) turn.6),
    )
