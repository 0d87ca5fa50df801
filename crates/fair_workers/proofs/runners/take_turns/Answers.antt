use Rattle.std.proofs.Common.{sym, ap, ◌∙◌}
use Rattle.wall_ledger.specs.Passes.{LedgerState}
use Rattle.fair_workers.proofs.Threaded.{goes-on}
use Rattle.fair_workers.proofs.runners.take_turns.Goals as goal

pub loop-ledger-preserved : goal.loop-ledger-preserved
loop-ledger-preserved g c =
    let k = c.args.run.now in
    let before = c.loop-ledger.invariant in
    let on = c.take_turn.ensures.on in
    record {
      goes = goes-on k.limits c.loop-ledger.held.ledger.now c.take_turn.new.shared.ledger.now c.loop-ledger.held.pass c.take_turn.new.shared.pass
          c.loop-ledger.worker c.take_turn.new.worker before.goes on c.take_turn.ensures.turns;
      ledger = on.ledger ∙ before.ledger;
      properties = before.properties ∙ ap (λ (n : LedgerState). n.properties) (sym on.ledger);
      number = on.number ∙ before.number;
    }
