use Rattle.aiger_grammar.proofs.SpellingLaws.{writes_names, writes_ascii}
use Rattle.aiger_grammar.proofs.laws.spelling_laws.Goals as goal

pub returns-clause-names : goal.returns-clause-names
returns-clause-names c = writes_names

pub returns-clause-ascii : goal.returns-clause-ascii
returns-clause-ascii c = writes_ascii
