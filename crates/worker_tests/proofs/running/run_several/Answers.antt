use Rattle.std.proofs.Common.{arith}
use Rattle.worker_tests.proofs.running.run_several.Goals as goal

pub run_turns-requires-clause-one : goal.run_turns-requires-clause-one
run_turns-requires-clause-one c = λ some. absurd (omega (arith, some, c.without_lassos.ensures.none))
