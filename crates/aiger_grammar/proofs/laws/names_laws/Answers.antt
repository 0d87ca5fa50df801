use Rattle.aiger_grammar.proofs.NamesLaws.{reads_names, reads_first_fault}
use Rattle.aiger_grammar.proofs.laws.names_laws.Goals as goal

pub returns-clause-names : goal.returns-clause-names
returns-clause-names c = reads_names

pub returns-clause-faults : goal.returns-clause-faults
returns-clause-faults c = reads_first_fault
