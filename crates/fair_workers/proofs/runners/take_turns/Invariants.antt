use Rattle.std.proofs.Common.{◌≡◌}
use Rattle.fair_workers.specs.Working.{left_to}
use Rattle.shared_lists.specs.Holding.{known_by}
use Rattle.fair_workers.specs.OnThreads.{Goes}
use Rattle.fair_workers.proofs.runners.take_turns.Given as goal

abbrev pub invariant-loop-ledger : goal.invariant-loop-ledger
invariant-loop-ledger g l = record {
  goes : Goes l.run.limits l.held.ledger.now l.held.pass l.worker;
  ledger : l.held.ledger.now ≡ l.fn.held.ledger.now;
  properties : l.run.properties.now ≡ l.held.ledger.now.properties;
  number : l.held.pass.number ≡ l.fn.held.pass.number;
}

abbrev pub decreases-loop-ledger : goal.decreases-loop-ledger
decreases-loop-ledger g l = left_to (known_by l.held.ledger.now l.held.pass) l.worker
