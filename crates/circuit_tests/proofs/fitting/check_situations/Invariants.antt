use Rattle.std.proofs.Common.{ℕ, ◌<◌, get_or}
use Rattle.fair_semantics.specs.declared.skeletons.Situation.{Situation}
use Rattle.fair_semantics.specs.Skeletons.{IsSituation}
use Rattle.circuit_tests.proofs.fitting.check_situations.Given as goal

abbrev pub invariant-loop-s : goal.invariant-loop-s
invariant-loop-s l = (k : ℕ) → (d : Situation) → k < l.s-index → IsSituation l.c (get_or l.situations k d)
