use Rattle.std.proofs.Common.{arith, ◌≡◌}
use Rattle.wall_ledger.proofs.Tickets.{splits}
use Rattle.wall_ledger.proofs.lock.Lock.split.Goals as goal

pub split_seat-requires : goal.split_seat-requires
split_seat-requires g c =
    let place = c.args.place.now in
    let lock = c.args.self.now in
    let words : lock.table.shared.table_id.words ≡ 3 = lock.sized.0 in (
      c.requires.own,
      omega arith,
      splits g.P.Rule.size g.P.Rule.active (g.P.Rule.holds lock.table.shared.key) place.id place.me.0
          (g.M.Part.left place.me.0.client) (g.M.Part.right place.me.0.client) g.M.Part.part
          c.requires.idle.0 c.requires.part c.requires.forks,
    )
