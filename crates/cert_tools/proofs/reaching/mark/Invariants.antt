use Rattle.std.proofs.Common.{◌-◌, ℕ, List, [], drop, length}
use Rattle.cert_tools.specs.Reaching.{IsMarked}
use Rattle.cert_tools.proofs.reaching.mark.Given as goal

-- the nodes behind here are followed
abbrev pub invariant-loop-k : goal.invariant-loop-k
invariant-loop-k l = (from : List ℕ) → IsMarked l.nodes from l.initial.numbers [] → IsMarked l.nodes from l.numbers (drop (length l.nodes - l.k) l.nodes)
