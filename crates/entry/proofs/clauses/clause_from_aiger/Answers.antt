use Rattle.entry.proofs.Over.{clause_over}
use Rattle.entry.proofs.clauses.clause_from_aiger.Goals as goal

pub returns-clause-over : goal.returns-clause-over
returns-clause-over c = clause_over c.args.c.now c.args.literals.now c.read_clause.result c.read_clause.ensures
