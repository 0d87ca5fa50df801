use Rattle.std.proofs.Common.{◌≡◌, ◌++◌, length, drop}
use Rattle.cnf_unroll.specs.Lending.{lent_all}
use Rattle.cnf_unroll.specs.Sides.{counted}
use Rattle.cnf_unroll.specs.Uses.{uses_clauses, after_uses, free_from}
use Rattle.cnf_unroll.specs.Layout.{use_ends}
use Rattle.cnf_unroll.proofs.uses.push_uses.Given as goal

abbrev pub invariant-loop-used : goal.invariant-loop-used
invariant-loop-used l = record {
  clauses : l.db.clauses ++ uses_clauses l.places (counted l.numbering) (lent_all (drop l.used-index l.uses)) ≡ l.initial.db.clauses ++ uses_clauses l.places (free_from l.free) (lent_all l.uses);
  numbering : after_uses l.places (counted l.numbering) (lent_all (drop l.used-index l.uses)) ≡ after_uses l.places (free_from l.free) (lent_all l.uses);
  ends : l.numbering.ends ++ use_ends (length l.db.clauses) l.places (counted l.numbering) (lent_all (drop l.used-index l.uses)) ≡ use_ends (length l.initial.db.clauses) l.places (free_from l.free) (lent_all l.uses);
}
