use Rattle.certificate_lines.proofs.WordLaws.{found_line, none_line}
use Rattle.certificate_lines.proofs.words.word_line_of.Goals as goal

pub returns-clause-found : goal.returns-clause-found
returns-clause-found c = found_line _ _ c.read_line.ensures

pub returns-clause-none : goal.returns-clause-none
returns-clause-none c = none_line _ _ c.read_line.ensures
