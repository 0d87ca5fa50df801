use Rattle.std.proofs.Common.{◌-◌, length}
use Rattle.ternary.proofs.LiftLaws.{IsLifting}
use Rattle.ternary.proofs.lifting.forget_all.Given as goal

abbrev pub invariant-loop-i : goal.invariant-loop-i
invariant-loop-i l = IsLifting l.c l.at l.keep l.i l.state

abbrev pub decreases-loop-i : goal.decreases-loop-i
decreases-loop-i l = length l.at.latches - l.i
