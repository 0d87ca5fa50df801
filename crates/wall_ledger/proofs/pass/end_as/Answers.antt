use Rattle.wall_ledger.proofs.Turning.{leaves}
use Rattle.wall_ledger.proofs.pass.end_as.Goals as goal

pub leave-requires-clause-turn : goal.leave-requires-clause-turn
leave-requires-clause-turn g c =
    let next = c.requires.next in
    leaves c.args.gate.now.table.shared.key.value c.args.hand.now c.requires.turn c.args.board next.0 next.2 g.J.After.after next.1 next.3
