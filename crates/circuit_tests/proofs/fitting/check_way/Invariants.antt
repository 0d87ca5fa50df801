use Rattle.std.proofs.Common.{take}
use Rattle.lasso_join.specs.Fitting.{LeadsTo}
use Rattle.circuit_tests.proofs.fitting.check_way.Given as goal

abbrev pub invariant-loop-p : goal.invariant-loop-p
invariant-loop-p l = LeadsTo l.c l.from l.state (take l.p-index l.positions)
