use Rattle.std.proofs.Common.{refl}
use Rattle.worker_tests.proofs.running.run_threaded.Goals as goal

pub run_all-requires-clause-one : goal.run_all-requires-clause-one
run_all-requires-clause-one g c κs lives = λ some. refl
