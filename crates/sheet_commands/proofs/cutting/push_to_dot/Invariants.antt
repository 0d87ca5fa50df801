use Rattle.std.proofs.Common.{◌≡◌, ◌++◌, length}
use Rattle.text_grammar.specs.Lines.{ended_lines}
use Rattle.sheet_commands.specs.Cutting.{to_dot}
use Rattle.sheet_commands.proofs.cutting.push_to_dot.Given as goal

abbrev pub invariant-loop-row : goal.invariant-loop-row
invariant-loop-row l = l.text.items ++ ended_lines (to_dot l.rest) ≡ l.fn.text.items ++ ended_lines (to_dot l.fn.rows)

abbrev pub decreases-loop-row : goal.decreases-loop-row
decreases-loop-row l = length l.rest
