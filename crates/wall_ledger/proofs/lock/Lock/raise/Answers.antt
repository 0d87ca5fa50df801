use Rattle.std.proofs.Common.{arith, ◌≡◌, ◌+◌, ◌<◌}
use Rattle.wall_ledger.proofs.Tickets.{raises}
use Rattle.wall_ledger.proofs.lock.Lock.raise.Goals as goal

pub fetch_add-requires : goal.fetch_add-requires
fetch_add-requires g c =
    let place = c.args.place.now in
    let lock = c.args.self.now in
    let words : lock.table.shared.table_id.words ≡ 3 = lock.sized.0 in
    let size = g.P.Rule.size in
    let longer = c.requires.longer in
    let more : size longer.2 ≡ size longer.1 + 1 = longer.5 in
    let below : size longer.2 < 18446744073709551616 = longer.6 in (
      c.requires.own,
      omega arith,
      raises size g.P.Rule.active (g.P.Rule.holds lock.table.shared.key) lock.table.shared.table_id.slots
          place.id place.me longer.0 longer.1 longer.3 (omega arith),
    )
