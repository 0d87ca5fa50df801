use Rattle.std.proofs.Common.{◌≡◌, drop}
use Rattle.wall_store.specs.Boards.{outcome_of}
use Rattle.wall_store.proofs.board.outcome_in.Given as goal

abbrev pub invariant-loop-s : goal.invariant-loop-s
invariant-loop-s l = outcome_of (drop l.s-index l.served) l.property ≡ outcome_of l.served l.property
