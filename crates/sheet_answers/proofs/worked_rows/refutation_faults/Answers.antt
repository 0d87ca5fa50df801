use Rattle.std.proofs.Common.{refl}
use Rattle.std.specs.Fmt.{digits}
use Rattle.proof_semantics.specs.Lines.{line_of}
use Rattle.text_grammar.specs.Numerals.{number_at}
use Rattle.certificate_lines.specs.Uses.{uses_of}
use Rattle.certificate_lines.specs.Words.{word_line_of}
use Rattle.sheet_answers.proofs.worked_rows.refutation_faults.Goals as goal

pub returns-clause-used : goal.returns-clause-used
unfolding digits word_line_of uses_of line_of number_at
returns-clause-used c = λ replays. refl

pub returns-clause-unfinished : goal.returns-clause-unfinished
unfolding digits word_line_of uses_of line_of number_at
returns-clause-unfinished c = λ replays. refl
