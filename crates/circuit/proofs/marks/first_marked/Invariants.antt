use Rattle.std.proofs.Common.{◌≢◌, ◌<◌, ℕ, get_or}
use Rattle.circuit.specs.declared.marks.Mark.TheVariants.{Nowhere}
use Rattle.circuit.proofs.marks.first_marked.Given as goal

abbrev pub invariant-loop-v : goal.invariant-loop-v
invariant-loop-v l = (u : ℕ) → u < l.v → get_or l.marks u Nowhere ≢ l.mark
