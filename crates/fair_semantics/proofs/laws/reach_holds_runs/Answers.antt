use Rattle.fair_semantics.proofs.Certified.{reach_holds_runs}
use Rattle.fair_semantics.proofs.laws.reach_holds_runs.Goals as goal

pub returns : goal.returns
returns c = reach_holds_runs
