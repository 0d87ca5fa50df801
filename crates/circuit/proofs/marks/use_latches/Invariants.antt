use Rattle.std.proofs.Common.{◌≡◌, fold, take}
use Rattle.circuit.specs.Marks.{with_use}
use Rattle.circuit.proofs.marks.use_latches.Given as goal

abbrev pub invariant-loop-latch : goal.invariant-loop-latch
invariant-loop-latch l = l.marks ≡ fold (λ m latch. with_use m latch.next) l.initial.marks (take l.latch-index l.latches)
