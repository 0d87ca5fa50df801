use Rattle.std.proofs.Common.{◌∙◌, sym, ap}
use Rattle.std.specs.Prelude.{option_and_then}
use Rattle.certificate_lines.specs.Words.{line_behind}
use Rattle.certificate_lines.specs.Reading.{fields_behind}
use Rattle.certificate_lines.proofs.WordLaws.{read_line}
use Rattle.certificate_lines.proofs.words.read_line.Goals as goal

pub returns-in_err-word : goal.returns-in_err-word
returns-in_err-word c =
    c.from_residual.ensures
    ∙ sym (read_line _ _ _ c.first_field.ensures
    ∙ ap (option_and_then (λ w. line_behind w (fields_behind c.first_field.result.1))) (sym c.word_in.ensures ∙ c.in_err-word.was))

pub returns : goal.returns
returns c =
    c.line_behind.ensures
    ∙ sym (read_line _ _ _ c.first_field.ensures
    ∙ ap (option_and_then (λ w. line_behind w (fields_behind c.first_field.result.1))) (sym c.word_in.ensures ∙ c.in_ok-word.was))
