use Rattle.std.proofs.Common.{ℕ, ◌<◌}
use Rattle.stimulus.specs.Faults.{AgreesAt}
use Rattle.round_answers.proofs.running.first_wrong.Given as goal

abbrev pub invariant-loop-i : goal.invariant-loop-i
invariant-loop-i l = (n : ℕ) → n < l.i → AgreesAt l.c l.latches n
