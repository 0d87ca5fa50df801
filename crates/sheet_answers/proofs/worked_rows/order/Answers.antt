use Rattle.std.proofs.Common.{refl}
use Rattle.std.specs.Fmt.{digits}
use Rattle.proof_semantics.specs.Lines.{line_of}
use Rattle.text_grammar.specs.Numerals.{number_at}
use Rattle.certificate_lines.specs.Uses.{uses_of}
use Rattle.certificate_lines.specs.Words.{word_line_of}
use Rattle.sheet_answers.proofs.worked_rows.order.Goals as goal

pub returns-clause-swapped : goal.returns-clause-swapped
unfolding digits word_line_of uses_of line_of number_at
returns-clause-swapped c = λ replays. refl

pub returns-clause-owed : goal.returns-clause-owed
unfolding digits word_line_of uses_of line_of number_at
returns-clause-owed c = λ replays. refl

pub returns-clause-too_many : goal.returns-clause-too_many
unfolding digits word_line_of uses_of line_of number_at
returns-clause-too_many c = λ replays. refl

pub returns-clause-entry : goal.returns-clause-entry
unfolding digits word_line_of uses_of line_of number_at
returns-clause-entry c = λ replays. refl

pub returns-clause-refuted : goal.returns-clause-refuted
unfolding digits word_line_of uses_of line_of number_at
returns-clause-refuted c = λ replays. refl

pub returns-clause-behind : goal.returns-clause-behind
unfolding digits word_line_of uses_of line_of number_at
returns-clause-behind c = λ replays. refl
