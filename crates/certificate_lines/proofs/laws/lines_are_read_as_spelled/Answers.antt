use Rattle.certificate_lines.proofs.WordLaws.{reads_word_lines}
use Rattle.certificate_lines.proofs.UseLaws.{reads_uses}
use Rattle.certificate_lines.proofs.ClauseLaws.{reads_clauses}
use Rattle.certificate_lines.proofs.laws.lines_are_read_as_spelled.Goals as goal

pub returns-clause-word_lines : goal.returns-clause-word_lines
returns-clause-word_lines c = reads_word_lines

pub returns-clause-uses : goal.returns-clause-uses
returns-clause-uses c = reads_uses

pub returns-clause-clauses : goal.returns-clause-clauses
returns-clause-clauses c = reads_clauses
