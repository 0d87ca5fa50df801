use Rattle.aiger_grammar.specs.AsciiTexts.{IsAsciiTextOf, ascii_at}
use Rattle.aiger_sections.proofs.FormLaws.{every_model, first_fault}
use Rattle.aiger_ascii.proofs.TextLaws.{ascii_reads}
use Rattle.aiger_ascii.proofs.reading.read.Goals as goal

pub returns-clause-every : goal.returns-clause-every
returns-clause-every c = λ m s. every_model IsAsciiTextOf ascii_at ascii_reads c.args.bytes.now c.read_checked.result m c.read_checked.ensures s

pub returns-clause-first : goal.returns-clause-first
returns-clause-first c = λ fault has. first_fault IsAsciiTextOf ascii_at ascii_reads c.args.bytes.now c.read_checked.result fault c.read_checked.ensures has
