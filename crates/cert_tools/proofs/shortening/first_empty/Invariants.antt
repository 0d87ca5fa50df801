use Rattle.std.proofs.Common.{◌≡◌, drop}
use Rattle.cert_tools.specs.TrimmingProofs.{first_empty}
use Rattle.cert_tools.proofs.shortening.first_empty.Given as goal

abbrev pub invariant-loop-line : goal.invariant-loop-line
invariant-loop-line l = first_empty (drop l.line-index l.lines) ≡ first_empty l.lines
