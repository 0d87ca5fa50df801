use Rattle.aiger_grammar.specs.AsciiTexts.{IsAsciiTextOf, ascii_at}
use Rattle.aiger_sections.proofs.FormLaws.{has_one_model, has_no_fault, is_text_or_faulty, has_one_fault}
use Rattle.aiger_ascii.proofs.TextLaws.{ascii_reads}
use Rattle.aiger_ascii.proofs.laws.ascii_laws.Goals as goal

pub returns-clause-one_model : goal.returns-clause-one_model
returns-clause-one_model c = has_one_model IsAsciiTextOf ascii_at ascii_reads

pub returns-clause-no_fault : goal.returns-clause-no_fault
returns-clause-no_fault c = has_no_fault IsAsciiTextOf ascii_at ascii_reads

pub returns-clause-text_or_fault : goal.returns-clause-text_or_fault
returns-clause-text_or_fault c = is_text_or_faulty IsAsciiTextOf ascii_at ascii_reads

pub returns-clause-one_fault : goal.returns-clause-one_fault
returns-clause-one_fault c = has_one_fault IsAsciiTextOf ascii_at ascii_reads
