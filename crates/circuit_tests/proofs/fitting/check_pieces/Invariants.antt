use Rattle.circuit_tests.specs.Testing.{ArePieces}
use Rattle.circuit_tests.proofs.fitting.check_pieces.Given as goal

abbrev pub invariant-loop-k : goal.invariant-loop-k
invariant-loop-k l = ArePieces l.c l.skeleton l.pieces l.k
