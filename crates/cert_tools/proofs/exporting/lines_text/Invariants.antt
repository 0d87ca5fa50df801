use Rattle.std.proofs.Common.{◌≡◌, take}
use Rattle.text_grammar.specs.Lines.{ended_lines}
use Rattle.cert_tools.proofs.exporting.lines_text.Given as goal

abbrev pub invariant-loop-line : goal.invariant-loop-line
invariant-loop-line l = l.text.items ≡ ended_lines (take l.line-index l.lines)
