use Rattle.std.proofs.Common.{drop}
use Rattle.std.specs.List.{All}
use Rattle.aig_semantics.specs.Runs.{IsPosition}
use Rattle.circuit.proofs.counts.are_positions.Given as goal

abbrev pub invariant-loop-position : goal.invariant-loop-position
invariant-loop-position l = All (IsPosition l.c) (drop l.position-index l.run) → All (IsPosition l.c) l.run
