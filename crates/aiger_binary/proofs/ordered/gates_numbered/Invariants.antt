use Rattle.std.proofs.Common.{◌≡◌, ℕ, ◌+◌, ◌<◌, get_or}
use Rattle.aig_semantics.specs.declared.parts.Gate.{Gate}
use Rattle.aiger_binary.proofs.ordered.gates_numbered.Given as goal

abbrev pub invariant-loop-k : goal.invariant-loop-k
invariant-loop-k l = (k : ℕ) (d : Gate) → k < l.k → (get_or l.gates k d).var ≡ l.first + k
