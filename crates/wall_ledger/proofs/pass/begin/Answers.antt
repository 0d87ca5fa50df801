use Rattle.wall_ledger.proofs.Turning.{may_turn}
use Rattle.wall_ledger.proofs.Events.{tells}
use Rattle.wall_ledger.proofs.pass.begin.Goals as goal

pub enter-ticket-requires-clause-active : goal.enter-ticket-requires-clause-active
enter-ticket-requires-clause-active g c = may_turn c.args.hand.now c.requires.resting

pub enter-ticket-requires-clause-learns : goal.enter-ticket-requires-clause-learns
enter-ticket-requires-clause-learns g c =
    tells c.args.gate.now.table.shared.key.value c.args.hand.now.place.id c.args.hand.now.place.me.0.client
