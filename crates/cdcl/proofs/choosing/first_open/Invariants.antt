use Rattle.std.proofs.Common.{◌≡◌, take, true}
use Rattle.cdcl.specs.Searching.{is_satisfied}
use Rattle.cdcl.proofs.choosing.first_open.Given as goal

abbrev pub invariant-loop-clause : goal.invariant-loop-clause
invariant-loop-clause l = is_satisfied (take l.clause-index l.clauses) l.trail.steps ≡ true
