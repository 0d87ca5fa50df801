use Rattle.ledger_tests.specs.Passes.{StaysPass}
use Rattle.ledger_tests.proofs.racing.run.Given as goal

abbrev pub invariant-loop-event : goal.invariant-loop-event
invariant-loop-event g l = StaysPass l.fn.pass l.pass
