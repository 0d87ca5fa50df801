use Rattle.fair_semantics.proofs.Certified.{loops_keep_sides}
use Rattle.fair_semantics.proofs.laws.loops_keep_sides.Goals as goal

pub returns : goal.returns
returns c = loops_keep_sides
