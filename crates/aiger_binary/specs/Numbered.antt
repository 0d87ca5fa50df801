-- Elements whose variables are numbered one after the other, as loops see them (scaffolding).
use Rattle.std.specs.Prelude.{◌≡◌, ℕ, ◌+◌, ◌<◌, List, length, slice_index_or}
use Rattle.std.specs.List.{All}
use Rattle.aiger_grammar.specs.Models.{Model}
use Rattle.aiger_grammar.specs.Ordered.{IsDescending}

-- element k has the variable first + k
abbrev pub AreNumbered : {X : Type 0} → (X → ℕ) → ℕ → List X → Type 0
AreNumbered {X} var first xs = (k : ℕ) (d : X) → k < length xs → var (slice_index_or xs k d) ≡ first + k

-- a model that is ordered, section by section
pub record IsInOrder (m : Model) : Type 0 where
  pub count : m.circuit.max ≡ length m.circuit.inputs + length m.circuit.latches + length m.circuit.gates
  pub inputs : AreNumbered (λ v. v) 1 m.circuit.inputs
  pub latches : AreNumbered (λ latch. latch.var) (1 + length m.circuit.inputs) m.circuit.latches
  pub gates : AreNumbered (λ gate. gate.var) (1 + length m.circuit.inputs + length m.circuit.latches) m.circuit.gates
  pub descending : All IsDescending m.circuit.gates
