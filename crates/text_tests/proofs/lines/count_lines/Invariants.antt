use Rattle.std.proofs.Common.{◌≡◌, ◌+◌, ◌-◌, ◌≤◌, length}
use Rattle.edge.specs.Told.{IfTold}
use Rattle.edge.specs.Reads.{KeepsTexts}
use Rattle.text_grammar.specs.Lines.{lines_of}
use Rattle.answer_lines.specs.Left.{left_of, most_bytes}
use Rattle.text_tests.proofs.lines.count_lines.Given as goal

-- the given lines and those of what is left are the text's
abbrev pub invariant-lines : goal.invariant-lines
invariant-lines g l = record {
  counted : IfTold (g.H.Shelf.held l.fn.shelf l.name) (λ text. l.count + length (lines_of (left_of l.lines text)) ≡ length (lines_of text));
  below : l.count ≤ l.lines.taken;
  kept : KeepsTexts (g.H.Shelf.held l.fn.shelf) (g.H.Shelf.held l.shelf);
}

abbrev pub decreases-lines : goal.decreases-lines
decreases-lines g l = most_bytes - l.lines.taken
