use Rattle.std.proofs.Common.{◌≡◌, drop}
use Rattle.fair_semantics.specs.States.{initial_cube}
use Rattle.entry.specs.Faults.{baseless_from}
use Rattle.entry.proofs.clauses.first_without_initial.Given as goal

abbrev pub invariant-loop-i : goal.invariant-loop-i
invariant-loop-i l = baseless_from l.i (initial_cube l.c) (drop l.i l.clauses) ≡ baseless_from 0 (initial_cube l.c) l.clauses
