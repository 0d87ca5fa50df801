use Rattle.std.proofs.Common.{refl}
use Rattle.worker_tests.proofs.running.run.Goals as goal

pub run_turns-requires-clause-one : goal.run_turns-requires-clause-one
run_turns-requires-clause-one c = λ some. refl
