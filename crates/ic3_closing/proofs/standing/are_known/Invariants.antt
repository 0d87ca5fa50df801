use Rattle.std.proofs.Common.{◌≡◌, drop}
use Rattle.entry.specs.Faults.{are_known}
use Rattle.ic3_closing.proofs.standing.are_known.Given as goal

abbrev pub invariant-loop-u : goal.invariant-loop-u
invariant-loop-u l = are_known l.uses (drop l.u-index l.named) ≡ are_known l.uses l.named
