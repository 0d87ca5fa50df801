use Rattle.std.proofs.Common.{◌≡◌, ℕ, ◌+◌, ◌<◌, get_or}
use Rattle.aig_semantics.specs.declared.parts.Latch.{Latch}
use Rattle.aiger_binary.proofs.ordered.latches_numbered.Given as goal

abbrev pub invariant-loop-k : goal.invariant-loop-k
invariant-loop-k l = (k : ℕ) (d : Latch) → k < l.k → (get_or l.latches k d).var ≡ l.first + k
