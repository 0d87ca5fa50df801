use Rattle.std.proofs.Common.{◌≡◌, ◌+◌, length, take}
use Rattle.round_answers.proofs.LaidOut.{IsOnTheWay}
use Rattle.round_answers.proofs.running.laid_out.Given as goal

abbrev pub invariant-loop-inputs : goal.invariant-loop-inputs
invariant-loop-inputs l = IsOnTheWay l.c l.s l.inputs-index l.run l.state × (length l.values.items ≡ l.c.max + 1)
