use Rattle.std.proofs.Common.{◌≡◌, ◌++◌, true, length}
use Rattle.text_grammar.specs.Lines.{lines_of}
use Rattle.stimulus.specs.Texts.{kept_lines}
use Rattle.sheet_answers.proofs.texts.kept_lines.Given as goal

abbrev pub invariant-loop-line : goal.invariant-loop-line
invariant-loop-line l = (l.kept.keeps ≡ true) × (l.kept.lines ++ kept_lines (lines_of l.rest) ≡ kept_lines (lines_of l.fn.text))

abbrev pub decreases-loop-line : goal.decreases-loop-line
decreases-loop-line l = length l.rest
