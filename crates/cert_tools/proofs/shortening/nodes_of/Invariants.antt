use Rattle.std.proofs.Common.{◌≡◌, take}
use Rattle.cert_tools.specs.TrimmingProofs.{nodes_of}
use Rattle.cert_tools.proofs.shortening.nodes_of.Given as goal

abbrev pub invariant-loop-line : goal.invariant-loop-line
invariant-loop-line l = l.nodes.items ≡ nodes_of (take l.line-index l.lines)
