use Rattle.std.proofs.Common.{take}
use Rattle.cdcl.proofs.SearchLaws.{OpenSoFar}
use Rattle.cdcl.proofs.choosing.open_literal.Given as goal

abbrev pub invariant-loop-literal : goal.invariant-loop-literal
invariant-loop-literal l = OpenSoFar l.trail.steps (take l.literal-index l.clause) l.open
