use Rattle.certificate_lines.proofs.ClauseLaws.{found_clause, none_clause}
use Rattle.certificate_lines.proofs.clauses.clause_of.Goals as goal

pub returns-clause-found : goal.returns-clause-found
returns-clause-found c = found_clause _ _ c.read_clause.ensures

pub returns-clause-none : goal.returns-clause-none
returns-clause-none c = none_clause _ _ c.read_clause.ensures
