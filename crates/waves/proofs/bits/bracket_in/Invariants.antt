use Rattle.std.proofs.Common.{◌≡◌, drop}
use Rattle.waves.specs.Buses.{bracket_from, bracket_in}
use Rattle.waves.proofs.bits.bracket_in.Given as goal

abbrev pub invariant-loop-k : goal.invariant-loop-k
invariant-loop-k l = bracket_from l.k (drop l.k l.name) ≡ bracket_in l.name
