use Rattle.std.proofs.Common.{◌≡◌, ◌++◌, drop}
use Rattle.waves.specs.Names.{next_identifier}
use Rattle.waves.proofs.names.next_identifier.Given as goal

abbrev pub invariant-loop-k : goal.invariant-loop-k
invariant-loop-k l = l.next.items ++ next_identifier (drop l.k l.code) ≡ next_identifier l.code
