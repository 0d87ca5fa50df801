use Rattle.fair_workers.proofs.Skeletons.{no-report}
use Rattle.fair_workers.proofs.laws.no_report_without_limits.Goals as goal

pub returns : goal.returns
returns c = no-report
