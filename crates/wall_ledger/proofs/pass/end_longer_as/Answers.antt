use Rattle.wall_ledger.proofs.Turning.{leaves_longer}
use Rattle.wall_ledger.proofs.pass.end_longer_as.Goals as goal

pub leave_longer-requires-clause-turn : goal.leave_longer-requires-clause-turn
leave_longer-requires-clause-turn g c =
    let next = c.requires.next in
    leaves_longer c.args.gate.now.table.shared.key.value c.args.hand.now c.requires.turn c.args.board next.0 next.2 g.J.After.after next.1 next.3 next.4
