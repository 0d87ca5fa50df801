use Rattle.cdcl.specs.Searching.{IsBackLevel}
use Rattle.cdcl.proofs.returning.back_level.Given as goal

abbrev pub invariant-loop-literal : goal.invariant-loop-literal
invariant-loop-literal l = IsBackLevel l.trail.steps l.clause l.base l.target
