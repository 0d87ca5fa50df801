use Rattle.aiger_grammar.specs.BinaryTexts.{IsBinaryTextOf, binary_at}
use Rattle.aiger_sections.proofs.FormLaws.{has_one_model, has_no_fault, is_text_or_faulty, has_one_fault}
use Rattle.aiger_binary.proofs.TextLaws.{binary_reads}
use Rattle.aiger_binary.proofs.Written.{writes_binary}
use Rattle.aiger_binary.proofs.OrderOfTexts.{has_text_where_ordered}
use Rattle.aiger_binary.proofs.laws.binary_laws.Goals as goal

pub returns-clause-one_model : goal.returns-clause-one_model
returns-clause-one_model c = has_one_model IsBinaryTextOf binary_at binary_reads

pub returns-clause-no_fault : goal.returns-clause-no_fault
returns-clause-no_fault c = has_no_fault IsBinaryTextOf binary_at binary_reads

pub returns-clause-text_or_fault : goal.returns-clause-text_or_fault
returns-clause-text_or_fault c = is_text_or_faulty IsBinaryTextOf binary_at binary_reads

pub returns-clause-one_fault : goal.returns-clause-one_fault
returns-clause-one_fault c = has_one_fault IsBinaryTextOf binary_at binary_reads

pub returns-clause-ordered : goal.returns-clause-ordered
returns-clause-ordered c = has_text_where_ordered

pub returns-clause-written : goal.returns-clause-written
returns-clause-written c = writes_binary
