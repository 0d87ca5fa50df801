use Rattle.std.proofs.Common.{◌≡◌, take}
use Rattle.sheet_commands.proofs.boards.copied_lines.Given as goal

abbrev pub invariant-loop-line : goal.invariant-loop-line
invariant-loop-line l = l.copy ≡ take l.line-index l.line-items
