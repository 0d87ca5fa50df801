use Rattle.std.proofs.Common.{◌≡◌, ◌++◌, ◌-◌, ◌*◌, ◌^◌, ◌≤◌}
use Rattle.cnf_unroll.specs.Obligations.{blocks_clauses, blocks_places, after_blocks}
use Rattle.cnf_unroll.proofs.skeletons.push_blocks.Given as goal

abbrev pub invariant-loop-block : goal.invariant-loop-block
invariant-loop-block l = record {
  clauses : l.db.clauses ++ blocks_clauses l.c l.base (l.count - l._block) ≡ l.initial.db.clauses ++ blocks_clauses l.c 0 l.count;
  places : l.places ++ blocks_places l.c l.base (l.count - l._block) ≡ l.initial.places ++ blocks_places l.c 0 l.count;
  after : after_blocks l.c l.base (l.count - l._block) ≡ after_blocks l.c 0 l.count;
  small : l.base ≤ l._block * 2 ^ 26;
}
