use Rattle.clause_arena.specs.Lending.{StaysLent}
use Rattle.clause_tests.proofs.lending.push_pairs.Given as goal

abbrev pub invariant-pushes : goal.invariant-pushes
invariant-pushes l = StaysLent l.initial.arena l.arena
