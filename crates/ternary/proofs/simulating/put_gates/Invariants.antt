use Rattle.std.proofs.Common.{◌≡◌, fold, take}
use Rattle.ternary.specs.Writing.{with_gate3}
use Rattle.ternary.proofs.simulating.put_gates.Given as goal

abbrev pub invariant-loop-gate : goal.invariant-loop-gate
invariant-loop-gate l = l.out ≡ fold with_gate3 l.initial.out (take l.gate-index l.order)
