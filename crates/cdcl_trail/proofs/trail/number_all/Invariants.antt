use Rattle.std.proofs.Common.{take}
use Rattle.cdcl_trail.specs.Renaming.{IsNumbering}
use Rattle.cdcl_trail.proofs.trail.number_all.Given as goal

abbrev pub invariant-loop-literal : goal.invariant-loop-literal
invariant-loop-literal l = IsNumbering l.fn.names l.names l.numbered.items (take l.literal-index l.clause)
