use Rattle.std.proofs.Common.{◌≡◌, length}
use Rattle.sheet_commands.specs.Cutting.{lines_after}
use Rattle.sheet_commands.proofs.cutting.lines_after.Given as goal

abbrev pub invariant-loop-first : goal.invariant-loop-first
invariant-loop-first l = lines_after l.line l.rest ≡ lines_after l.line l.fn.lines

abbrev pub decreases-loop-first : goal.decreases-loop-first
decreases-loop-first l = length l.rest
