use Rattle.std.proofs.Common.{arith}
use Rattle.worker_tests.proofs.running.run_several_threaded.Goals as goal

pub run_all-requires-clause-one : goal.run_all-requires-clause-one
run_all-requires-clause-one g c κs lives = λ some. absurd (omega (arith, some, c.without_lassos.ensures.none))
