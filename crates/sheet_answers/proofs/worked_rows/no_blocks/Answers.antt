use Rattle.std.proofs.Common.{refl}
use Rattle.proof_semantics.specs.Lines.{line_of}
use Rattle.text_grammar.specs.Numerals.{number_at}
use Rattle.certificate_lines.specs.Uses.{uses_of}
use Rattle.certificate_lines.specs.Words.{word_line_of}
use Rattle.sheet_answers.proofs.worked_rows.no_blocks.Goals as goal

pub returns : goal.returns
unfolding word_line_of uses_of line_of number_at
returns c = λ replays. refl
