use Rattle.cdcl_trail.specs.Looking.{HasLate}
use Rattle.cdcl_trail.proofs.choosing.latest_but.Given as goal

abbrev pub invariant-loop-literal : goal.invariant-loop-literal
invariant-loop-literal l = HasLate l.clause l.other l.literal-index l.best
