use Rattle.std.proofs.Common.{rules, ◌≡◌, sym, subst, refl}
use Rattle.std.specs.Option.{IsSome}
use Rattle.wall_ledger.specs.Tickets.{IsLast}
use Rattle.std.specs.Mem.Slots.{slots_items}
use Rattle.wall_ledger.proofs.Tickets.{lasts}
use Rattle.wall_ledger.proofs.lock.Lock.close.Goals as goal

pub unwrap-requires : goal.unwrap-requires
unwrap-requires g c =
    let place = c.args.place in
    let closed = c.close_with-closed.result in
    let h = lasts g.P.Rule.size g.P.Rule.active (g.P.Rule.holds c.args.self.table.shared.key) place.id place.me.0
    (slots_items closed.words) (slots_items closed.slots) c.take-value.result c.requires.idle.0 c.requires.alone
    c.close_with-closed.ensures.values.2 c.take-value.ensures.value in
    subst IsSome (sym h.1) refl

pub returns : goal.returns
returns g c =
    let place = c.args.place in
    let closed = c.close_with-closed.result in
    let h = lasts g.P.Rule.size g.P.Rule.active (g.P.Rule.holds c.args.self.table.shared.key) place.id place.me.0
    (slots_items closed.words) (slots_items closed.slots) c.take-value.result c.requires.idle.0 c.requires.alone
    c.close_with-closed.ensures.values.2 c.take-value.ensures.value in
    let same : h.0 ≡ c.unwrap.result = search rules in
    subst (IsLast (g.P.Rule.holds c.args.self.table.shared.key) place.id place.me.0.client) same h.2
