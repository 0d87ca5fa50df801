use Rattle.std.proofs.Common.{◌≡◌, take}
use Rattle.cert_tools.specs.TrimmingEntries.{entry_nodes}
use Rattle.cert_tools.proofs.entries.entry_nodes.Given as goal

abbrev pub invariant-loop-k : goal.invariant-loop-k
invariant-loop-k l = l.nodes.items ≡ entry_nodes 0 (take l.k l.entries)
