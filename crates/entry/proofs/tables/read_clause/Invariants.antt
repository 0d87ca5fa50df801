use Rattle.std.proofs.Common.{◌≡◌, drop}
use Rattle.entry.specs.Clauses.{clause_behind, clause_of}
use Rattle.entry.proofs.tables.read_clause.Given as goal

abbrev pub invariant-loop-literal : goal.invariant-loop-literal
invariant-loop-literal l = clause_behind l.c l.clause (drop l.literal-index l.literals) ≡ clause_of l.c l.literals
