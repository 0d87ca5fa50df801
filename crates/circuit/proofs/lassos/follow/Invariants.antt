use Rattle.std.proofs.Common.{drop}
use Rattle.circuit.proofs.Following.{IsOnTheWay}
use Rattle.circuit.proofs.lassos.follow.Given as goal

abbrev pub invariant-loop-now : goal.invariant-loop-now
invariant-loop-now l = IsOnTheWay l.c l.initial.latches l.latches l.inputs (drop l.now-index l.inputs) l.literals l.initial.seen l.seen
