use Rattle.wall_ledger.specs.Turns.{HasOpened}
use Rattle.wall_ledger.specs.Hands.{state_of}
use Rattle.wall_ledger.proofs.Homes.{gate_in, turns_in, outward}
use Rattle.wall_ledger.proofs.ledger.Ledger.next_open.Goals as goal

pub next_open_in-requires-clause-own : goal.next_open_in-requires-clause-own
next_open_in-requires-clause-own g c =
    gate_in c.pass.inside.hand c.self.inside.gate.table.shared.table_id c.self.inside.gate.table.shared.key.value c.args.self.now c.args.pass.now c.self.view_is c.pass.view_is c.pass.invariant c.requires.own

pub next_open_in-requires-clause-turns : goal.next_open_in-requires-clause-turns
next_open_in-requires-clause-turns g c =
    turns_in c.pass.inside.hand c.self.inside.gate.table.shared.table_id c.self.inside.gate.table.shared.key.value c.args.self.now c.args.pass.now c.self.view_is c.pass.view_is c.pass.invariant c.requires.own
    c.requires.turns

pub returns : goal.returns
returns g c =
    outward c.pass.inside.hand c.self.inside.gate.table.shared.table_id c.self.inside.gate.table.shared.key.value c.args.self.now c.args.pass.now c.self.view_is c.pass.view_is c.pass.invariant c.requires.own (λ l p. HasOpened l p c.args.from c.next_open_in.result (state_of c.next_open_in.new.hand)) c.next_open_in.ensures.opened
