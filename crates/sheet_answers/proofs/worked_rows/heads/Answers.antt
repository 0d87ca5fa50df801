use Rattle.std.proofs.Common.{refl}
use Rattle.proof_semantics.specs.Lines.{line_of}
use Rattle.text_grammar.specs.Numerals.{number_at}
use Rattle.certificate_lines.specs.Uses.{uses_of}
use Rattle.certificate_lines.specs.Words.{word_line_of}
use Rattle.sheet_answers.proofs.worked_rows.heads.Goals as goal

pub returns-clause-more : goal.returns-clause-more
unfolding word_line_of uses_of line_of number_at
returns-clause-more c = λ replays. refl

pub returns-clause-form : goal.returns-clause-form
unfolding word_line_of uses_of line_of number_at
returns-clause-form c = λ replays. refl

pub returns-clause-first_version : goal.returns-clause-first_version
unfolding word_line_of uses_of line_of number_at
returns-clause-first_version c = λ replays. refl
