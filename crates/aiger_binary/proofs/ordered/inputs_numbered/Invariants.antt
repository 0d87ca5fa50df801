use Rattle.std.proofs.Common.{◌≡◌, ℕ, ◌+◌, ◌<◌, get_or}
use Rattle.aiger_binary.proofs.ordered.inputs_numbered.Given as goal

abbrev pub invariant-loop-k : goal.invariant-loop-k
invariant-loop-k l = (k : ℕ) (d : ℕ) → k < l.k → (get_or l.inputs k d) ≡ l.first + k
