use Rattle.std.specs.List.{Contains}
use Rattle.wall_store.specs.Boards.{IsTrueOf}
use Rattle.wall_ledger.specs.Turns.{HasFinished}
use Rattle.wall_ledger.specs.Hands.{state_of}
use Rattle.wall_ledger.proofs.Homes.{gate_in, turns_in, outward, inward}
use Rattle.wall_ledger.proofs.ledger.Ledger.finish.Goals as goal

pub finish_in-requires-clause-own : goal.finish_in-requires-clause-own
finish_in-requires-clause-own g c =
    gate_in c.pass.inside.hand c.self.inside.gate.table.shared.table_id c.self.inside.gate.table.shared.key.value c.args.self.now c.args.pass.now c.self.view_is c.pass.view_is c.pass.invariant c.requires.own

pub finish_in-requires-clause-turns : goal.finish_in-requires-clause-turns
finish_in-requires-clause-turns g c =
    turns_in c.pass.inside.hand c.self.inside.gate.table.shared.table_id c.self.inside.gate.table.shared.key.value c.args.self.now c.args.pass.now c.self.view_is c.pass.view_is c.pass.invariant c.requires.own
    c.requires.turns

pub finish_in-requires-clause-served : goal.finish_in-requires-clause-served
finish_in-requires-clause-served g c =
    inward c.pass.inside.hand c.self.inside.gate.table.shared.table_id c.self.inside.gate.table.shared.key.value c.args.self.now c.args.pass.now c.self.view_is c.pass.view_is c.pass.invariant c.requires.own (λ l p. Contains l.properties c.args.property) c.requires.served

pub finish_in-requires-clause-outcome : goal.finish_in-requires-clause-outcome
finish_in-requires-clause-outcome g c =
    inward c.pass.inside.hand c.self.inside.gate.table.shared.table_id c.self.inside.gate.table.shared.key.value c.args.self.now c.args.pass.now c.self.view_is c.pass.view_is c.pass.invariant c.requires.own (λ l p. IsTrueOf l.circuit p.list c.args.property c.args.outcome) c.requires.outcome

pub returns : goal.returns
returns g c =
    outward c.pass.inside.hand c.self.inside.gate.table.shared.table_id c.self.inside.gate.table.shared.key.value c.args.self.now c.args.pass.now c.self.view_is c.pass.view_is c.pass.invariant c.requires.own (λ l p. HasFinished l p c.args.property c.args.outcome c.finish_in.result (state_of c.finish_in.new.hand)) c.finish_in.ensures.finished
