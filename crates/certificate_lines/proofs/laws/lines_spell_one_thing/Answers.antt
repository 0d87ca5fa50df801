use Rattle.certificate_lines.proofs.WordLaws.{one_word_line}
use Rattle.certificate_lines.proofs.UseLaws.{one_list_of_uses}
use Rattle.certificate_lines.proofs.ClauseLaws.{one_clause}
use Rattle.certificate_lines.proofs.FormLaws.{words_are_no_uses, words_are_no_clauses}
use Rattle.certificate_lines.proofs.laws.lines_spell_one_thing.Goals as goal

pub returns-clause-word_lines : goal.returns-clause-word_lines
returns-clause-word_lines c = one_word_line

pub returns-clause-uses : goal.returns-clause-uses
returns-clause-uses c = one_list_of_uses

pub returns-clause-clauses : goal.returns-clause-clauses
returns-clause-clauses c = one_clause

pub returns-clause-words_no_uses : goal.returns-clause-words_no_uses
returns-clause-words_no_uses c = words_are_no_uses

pub returns-clause-words_no_clauses : goal.returns-clause-words_no_clauses
returns-clause-words_no_clauses c = words_are_no_clauses
