use Rattle.std.proofs.Common.{◌≡◌, ◌+◌, ◌≤◌, drop, length}
use Rattle.circuit.specs.RoundsAlong.{rounds_along}
use Rattle.circuit.proofs.counts.rounds_along.Given as goal

abbrev pub invariant-loop-position : goal.invariant-loop-position
invariant-loop-position l =
    (l.count + rounds_along l.c l.literals l.seen (drop l.position-index l.run) ≡ rounds_along l.c l.literals l.initial.seen l.run)
    × (l.count ≤ l.position-index)
    × (length l.seen ≡ length l.literals)
