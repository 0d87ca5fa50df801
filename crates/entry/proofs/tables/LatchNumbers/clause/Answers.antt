use Rattle.entry.proofs.Over.{clause_over}
use Rattle.entry.proofs.tables.LatchNumbers.clause.Goals as goal

pub returns-clause-over : goal.returns-clause-over
returns-clause-over c = clause_over c.args._c.now c.args.literals.now c.read_clause.result c.read_clause.ensures
