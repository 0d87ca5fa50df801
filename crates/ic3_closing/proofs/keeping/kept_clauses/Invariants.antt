use Rattle.std.proofs.Common.{◌≡◌, ◌++◌, drop}
use Rattle.ic3_closing.specs.Keeping.{kept_clauses}
use Rattle.ic3_closing.proofs.keeping.kept_clauses.Given as goal

abbrev pub invariant-loop-i : goal.invariant-loop-i
invariant-loop-i l = l.kept ++ kept_clauses l.marks l.i (drop l.i l.clauses) ≡ kept_clauses l.marks 0 l.clauses
