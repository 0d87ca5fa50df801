use Rattle.text_grammar.proofs.NumeralLaws.{reads_numerals, has_one_numeral}
use Rattle.text_grammar.proofs.PieceLaws.{joins_pieces, pieces_lack_byte, cuts_joined, cuts_first, cuts_none}
use Rattle.text_grammar.proofs.LineLaws.{first_line, last_line, lines_lack_line_feed, reads_written_lines, lines_are_text}
use Rattle.text_grammar.proofs.laws.text_laws.Goals as goal

pub returns-clause-numerals_read : goal.returns-clause-numerals_read
returns-clause-numerals_read c = reads_numerals

pub returns-clause-one_numeral : goal.returns-clause-one_numeral
returns-clause-one_numeral c = has_one_numeral

pub returns-clause-pieces_joined : goal.returns-clause-pieces_joined
returns-clause-pieces_joined c = joins_pieces

pub returns-clause-pieces_lack_byte : goal.returns-clause-pieces_lack_byte
returns-clause-pieces_lack_byte c = pieces_lack_byte

pub returns-clause-joined_cut : goal.returns-clause-joined_cut
returns-clause-joined_cut c = cuts_joined

pub returns-clause-first_piece : goal.returns-clause-first_piece
returns-clause-first_piece c = cuts_first

pub returns-clause-one_piece : goal.returns-clause-one_piece
returns-clause-one_piece c = cuts_none

pub returns-clause-first_line : goal.returns-clause-first_line
returns-clause-first_line c = first_line

pub returns-clause-last_line : goal.returns-clause-last_line
returns-clause-last_line c = last_line

pub returns-clause-lines_lack_line_feed : goal.returns-clause-lines_lack_line_feed
returns-clause-lines_lack_line_feed c = lines_lack_line_feed

pub returns-clause-written_read : goal.returns-clause-written_read
returns-clause-written_read c = reads_written_lines

pub returns-clause-lines_are_text : goal.returns-clause-lines_are_text
returns-clause-lines_are_text c = lines_are_text
