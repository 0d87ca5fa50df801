use Rattle.ic3.specs.SteppingStart.{IsHeldUpTo}
use Rattle.ic3.proofs.renewing.hold_all.Given as goal

abbrev pub invariant-loop-place : goal.invariant-loop-place
invariant-loop-place l = IsHeldUpTo l.lemmas l.place l.initial.s l.s
