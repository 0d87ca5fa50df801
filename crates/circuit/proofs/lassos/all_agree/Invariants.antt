use Rattle.std.proofs.Common.{◌≡◌, drop}
use Rattle.circuit.specs.Following.{all_agree}
use Rattle.circuit.proofs.lassos.all_agree.Given as goal

abbrev pub invariant-loop-k : goal.invariant-loop-k
invariant-loop-k l = all_agree (drop l.k l.latches) (drop l.k l.values) ≡ all_agree l.latches l.values
