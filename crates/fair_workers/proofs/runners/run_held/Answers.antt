use Rattle.std.proofs.Common.{sym}
use Rattle.fair_workers.proofs.runners.run_held.Goals as goal

pub run_worker-requires-clause-properties : goal.run_worker-requires-clause-properties
run_worker-requires-clause-properties g c κs lives = sym c.requires.same
