use Rattle.std.proofs.Common.{◌≡◌, ◌++◌, take}
use Rattle.std.specs.List.{flat_map}
use Rattle.cnf_unroll.specs.Blocks.{latch_clauses}
use Rattle.cnf_unroll.proofs.blocks.push_latches.Given as goal

abbrev pub invariant-loop-latch : goal.invariant-loop-latch
invariant-loop-latch l =
    l.db.clauses ≡ l.initial.db.clauses ++ flat_map (latch_clauses l.c l.base) (take l.latch-index l.latch-items)
