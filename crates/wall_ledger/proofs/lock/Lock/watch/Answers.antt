use Rattle.std.proofs.Common.{arith, ◌≡◌}
use Rattle.wall_ledger.proofs.Tickets.{watches}
use Rattle.wall_ledger.proofs.lock.Lock.watch.Goals as goal

pub load-requires : goal.load-requires
load-requires g c =
    let place = c.args.place.now in
    let lock = c.args.self.now in
    let words : lock.table.shared.table_id.words ≡ 3 = lock.sized.0 in (
      c.requires.own,
      omega arith,
      watches g.P.Rule.size g.P.Rule.active (g.P.Rule.holds lock.table.shared.key) lock.table.shared.table_id.slots
          g.M.Lesson.fact place.id place.me c.args.ticket c.requires.waiting.0 c.requires.learns,
    )
