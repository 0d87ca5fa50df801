use Rattle.std.proofs.Common.{◌≡◌, length}
use Rattle.text_grammar.specs.Lines.{lines_of}
use Rattle.stimulus.specs.Texts.{kept_lines}
use Rattle.sheet_answers.specs.Reading.{is_sheet}
use Rattle.sheet_answers.proofs.texts.is_sheet.Given as goal

abbrev pub invariant-loop-line : goal.invariant-loop-line
invariant-loop-line l = is_sheet (kept_lines (lines_of l.rest)) ≡ is_sheet (kept_lines (lines_of l.fn.text))

abbrev pub decreases-loop-line : goal.decreases-loop-line
decreases-loop-line l = length l.rest
