use Rattle.std.proofs.lemmas.Result.{on_ok_weaker, on_err_weaker}
use Rattle.wall_ledger.specs.Turns.{HasLooked, IsRefused}
use Rattle.wall_ledger.specs.Hands.{state_of}
use Rattle.wall_ledger.proofs.Homes.{gate_in, turns_in, outward}
use Rattle.wall_ledger.proofs.ledger.Ledger.look.Goals as goal

pub look_in-requires-clause-own : goal.look_in-requires-clause-own
look_in-requires-clause-own g c =
    gate_in c.pass.inside.hand c.self.inside.gate.table.shared.table_id c.self.inside.gate.table.shared.key.value c.args.self.now c.args.pass.now c.self.view_is c.pass.view_is c.pass.invariant c.requires.own

pub look_in-requires-clause-turns : goal.look_in-requires-clause-turns
look_in-requires-clause-turns g c =
    turns_in c.pass.inside.hand c.self.inside.gate.table.shared.table_id c.self.inside.gate.table.shared.key.value c.args.self.now c.args.pass.now c.self.view_is c.pass.view_is c.pass.invariant c.requires.own
    c.requires.turns

pub returns-clause-ok : goal.returns-clause-ok
returns-clause-ok g c =
    on_ok_weaker c.look_in.result (outward c.pass.inside.hand c.self.inside.gate.table.shared.table_id c.self.inside.gate.table.shared.key.value c.args.self.now c.args.pass.now c.self.view_is c.pass.view_is c.pass.invariant c.requires.own (λ l p. HasLooked l p (state_of c.look_in.new.hand))) c.look_in.ensures.ok

pub returns-clause-err : goal.returns-clause-err
returns-clause-err g c =
    on_err_weaker c.look_in.result (outward c.pass.inside.hand c.self.inside.gate.table.shared.table_id c.self.inside.gate.table.shared.key.value c.args.self.now c.args.pass.now c.self.view_is c.pass.view_is c.pass.invariant c.requires.own (λ l p. IsRefused p (state_of c.look_in.new.hand))) c.look_in.ensures.err
