use Rattle.std.proofs.Common.{◌≡◌, ◌++◌, drop}
use Rattle.lasso_clauses.specs.Clauses.{all_met}
use Rattle.lasso_clauses.proofs.growing.push_all_met.Given as goal

abbrev pub invariant-loop-literal : goal.invariant-loop-literal
invariant-loop-literal l = record {
  clauses : l.db.clauses ++ all_met l.at.circuit.now l.at.before l.at.base l.m (drop l.literal-index l.literals) ≡ l.initial.db.clauses ++ all_met l.at.circuit.now l.at.before l.at.base 0 l.literals;
  m : l.m ≡ l.literal-index;
}
