use Rattle.std.proofs.Common.{drop}
use Rattle.fair_semantics.specs.Skeletons.{AreTrueInTurn}
use Rattle.circuit_tests.proofs.fitting.check_literals.Given as goal

abbrev pub invariant-loop-k : goal.invariant-loop-k
invariant-loop-k l = AreTrueInTurn l.c (drop l.k l.literals) (drop l.k l.situations) → AreTrueInTurn l.c l.literals l.situations
