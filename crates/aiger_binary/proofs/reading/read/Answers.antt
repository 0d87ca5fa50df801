use Rattle.aiger_grammar.specs.BinaryTexts.{IsBinaryTextOf, binary_at}
use Rattle.aiger_sections.proofs.FormLaws.{every_model, first_fault}
use Rattle.aiger_binary.proofs.TextLaws.{binary_reads}
use Rattle.aiger_binary.proofs.OrderOfTexts.{ordered_answer}
use Rattle.aiger_binary.proofs.reading.read.Goals as goal

pub returns-clause-every : goal.returns-clause-every
returns-clause-every c = λ m s. every_model IsBinaryTextOf binary_at binary_reads c.args.bytes.now c.read_checked.result m c.read_checked.ensures s

pub returns-clause-first : goal.returns-clause-first
returns-clause-first c = λ fault has. first_fault IsBinaryTextOf binary_at binary_reads c.args.bytes.now c.read_checked.result fault c.read_checked.ensures has

pub returns-clause-ordered : goal.returns-clause-ordered
returns-clause-ordered c = ordered_answer c.args.bytes.now c.read_checked.result c.read_checked.ensures
