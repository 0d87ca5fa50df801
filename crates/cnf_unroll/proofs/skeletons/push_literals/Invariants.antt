use Rattle.std.proofs.Common.{◌≡◌, ◌++◌, ◌*◌, ◌^◌, ◌≤◌, drop}
use Rattle.cnf_unroll.specs.Obligations.{literals_clauses}
use Rattle.cnf_unroll.proofs.skeletons.push_literals.Given as goal

abbrev pub invariant-loop-literal : goal.invariant-loop-literal
invariant-loop-literal l = record {
  clauses : l.db.clauses ++ literals_clauses l.c l.base (drop l.literal-index l.literals) ≡ l.initial.db.clauses ++ literals_clauses l.c 0 l.literals;
  small : l.base ≤ l.literal-index * 2 ^ 26;
}
