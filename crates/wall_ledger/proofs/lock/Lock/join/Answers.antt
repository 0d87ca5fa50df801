use Rattle.std.proofs.Common.{arith, ◌≡◌}
use Rattle.wall_ledger.proofs.Tickets.{joins}
use Rattle.wall_ledger.proofs.lock.Lock.join.Goals as goal

pub join_seat-requires : goal.join_seat-requires
join_seat-requires g c =
    let place = c.args.place.now in
    let other = c.args.other in
    let lock = c.args.self.now in
    let words : lock.table.shared.table_id.words ≡ 3 = lock.sized.0 in (
      c.requires.own,
      c.requires.other,
      c.requires.idle.1.1,
      omega arith,
      joins g.P.Rule.size g.P.Rule.active (g.P.Rule.holds lock.table.shared.key) place.id place.me.0 other.id other.me.0
          (g.M.Whole.both place.me.0.client other.me.0.client) g.M.Whole.spent c.requires.idle.0.0 c.requires.idle.1.0 c.requires.merges,
    )
