use Rattle.std.proofs.Common.{◌≡◌, ◌++◌, drop}
use Rattle.cert_tools.specs.TrimmingProofs.{needed_lines}
use Rattle.cert_tools.proofs.shortening.needed_lines.Given as goal

abbrev pub invariant-loop-line : goal.invariant-loop-line
invariant-loop-line l = l.kept ++ needed_lines l.numbers (drop l.line-index l.lines) ≡ needed_lines l.numbers l.lines
