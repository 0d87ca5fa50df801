use Rattle.std.proofs.Common.{arith, ◌≡◌}
use Rattle.wall_ledger.proofs.Tickets.{draws}
use Rattle.wall_ledger.proofs.lock.Lock.draw.Goals as goal

pub fetch_add-requires : goal.fetch_add-requires
fetch_add-requires g c =
    let place = c.args.place.now in
    let lock = c.args.self.now in
    let words : lock.table.shared.table_id.words ≡ 3 = lock.sized.0 in (
      c.requires.own,
      omega arith,
      draws g.P.Rule.size g.P.Rule.active (g.P.Rule.holds lock.table.shared.key) lock.table.shared.table_id.slots
          place.id place.me c.requires.idle.0 c.requires.budget c.requires.active,
    )
