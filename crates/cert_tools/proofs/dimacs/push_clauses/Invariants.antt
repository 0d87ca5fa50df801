use Rattle.std.proofs.Common.{◌≡◌, ◌++◌, take}
use Rattle.std.specs.List.{flat_map}
use Rattle.cert_tools.specs.Dimacs.{clause_line}
use Rattle.cert_tools.proofs.dimacs.push_clauses.Given as goal

abbrev pub invariant-loop-clause : goal.invariant-loop-clause
invariant-loop-clause l = l.text.items ≡ l.initial.text.items ++ flat_map clause_line (take l.clause-index l.clauses)
