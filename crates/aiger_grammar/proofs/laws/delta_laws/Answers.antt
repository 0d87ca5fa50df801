use Rattle.aiger_grammar.proofs.DeltaLaws.{reads_deltas, has_one_delta, has_one_spelling}
use Rattle.aiger_grammar.proofs.laws.delta_laws.Goals as goal

pub returns-clause-read : goal.returns-clause-read
returns-clause-read c = reads_deltas

pub returns-clause-one_delta : goal.returns-clause-one_delta
returns-clause-one_delta c = has_one_delta

pub returns-clause-one_spelling : goal.returns-clause-one_spelling
returns-clause-one_spelling c = has_one_spelling
