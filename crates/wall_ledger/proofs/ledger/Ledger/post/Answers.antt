use Rattle.std.proofs.lemmas.Result.{on_err_weaker, IfOk-weaker}
use Rattle.std.specs.Arc.{arc_value}
use Rattle.wall_ledger.specs.Passes.{MayPassPost}
use Rattle.wall_ledger.specs.Turns.{HasPosted, IsRefused}
use Rattle.wall_ledger.specs.Hands.{state_of}
use Rattle.wall_ledger.proofs.Homes.{gate_in, turns_in, outward, inward}
use Rattle.wall_ledger.proofs.ledger.Ledger.post.Goals as goal

pub post_in-requires-clause-own : goal.post_in-requires-clause-own
post_in-requires-clause-own g c =
    gate_in c.pass.inside.hand c.self.inside.gate.table.shared.table_id c.self.inside.gate.table.shared.key.value c.args.self.now c.args.pass.now c.self.view_is c.pass.view_is c.pass.invariant c.requires.own

pub post_in-requires-clause-turns : goal.post_in-requires-clause-turns
post_in-requires-clause-turns g c =
    turns_in c.pass.inside.hand c.self.inside.gate.table.shared.table_id c.self.inside.gate.table.shared.key.value c.args.self.now c.args.pass.now c.self.view_is c.pass.view_is c.pass.invariant c.requires.own
    c.requires.turns

pub post_in-requires-clause-may : goal.post_in-requires-clause-may
post_in-requires-clause-may g c =
    inward c.pass.inside.hand c.self.inside.gate.table.shared.table_id c.self.inside.gate.table.shared.key.value c.args.self.now c.args.pass.now c.self.view_is c.pass.view_is c.pass.invariant c.requires.own (λ l p. MayPassPost l p (arc_value c.args.entry.now)) c.requires.may

pub returns-clause-ok : goal.returns-clause-ok
returns-clause-ok g c =
    IfOk-weaker c.post_in.result
    (λ r. HasPosted _ _ (arc_value c.args.entry.now) r (state_of c.post_in.new.hand))
    (λ r. HasPosted c.args.self.now c.args.pass.now (arc_value c.args.entry.now) r (state_of c.post_in.new.hand))
    (λ r. outward c.pass.inside.hand c.self.inside.gate.table.shared.table_id c.self.inside.gate.table.shared.key.value c.args.self.now c.args.pass.now c.self.view_is c.pass.view_is c.pass.invariant c.requires.own (λ l p. HasPosted l p (arc_value c.args.entry.now) r (state_of c.post_in.new.hand))) c.post_in.ensures.ok

pub returns-clause-err : goal.returns-clause-err
returns-clause-err g c =
    on_err_weaker c.post_in.result (outward c.pass.inside.hand c.self.inside.gate.table.shared.table_id c.self.inside.gate.table.shared.key.value c.args.self.now c.args.pass.now c.self.view_is c.pass.view_is c.pass.invariant c.requires.own (λ l p. IsRefused p (state_of c.post_in.new.hand))) c.post_in.ensures.err
