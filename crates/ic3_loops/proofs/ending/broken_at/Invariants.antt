use Rattle.std.proofs.Common.{◌≡◌, true, take}
use Rattle.fair_semantics.specs.States.{meets_clauses}
use Rattle.ic3_loops.proofs.ending.broken_at.Given as goal

abbrev pub invariant-loop-i : goal.invariant-loop-i
invariant-loop-i l = meets_clauses (take l.i l.clauses) l.state ≡ true
