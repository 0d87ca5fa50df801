-- Bad runs, by which a safety checker refutes a model (AIGER 1.9; Biere, Heljanko, Wieringa, 2011), and fair lassos, by
-- which a liveness checker does.
use Rattle.std.specs.Prelude.{◌≡◌, ℕ, ◌-◌, List, length, Some, slice_get, IsTrue}
use Rattle.std.specs.List.{Any}
use Rattle.aig_semantics.specs.declared.traces.Position.{Position}
use Rattle.aig_semantics.specs.Circuits.{Circuit}
use Rattle.aig_semantics.specs.Runs.{literal_at, IsInitialRun, IsFairLasso}
use Rattle.aiger_grammar.specs.Models.{Model}

-- an initial run, not empty, at whose last position a bad state literal of the model is true
pub record IsBadRun (m : Model) (run : List Position) : Type 0 where
  pub initial : IsInitialRun m.circuit run
  pub last : Position
  pub is_last : slice_get run (length run - 1) ≡ Some last
  pub bad : Any (λ literal. IsTrue (literal_at m.circuit last literal)) m.bad

abbrev pub HasBadRun : Model → Type 0
HasBadRun m = (run : List Position) × IsBadRun m run

-- some run of the circuit is a fair lasso of property j, from some place on
abbrev pub HasFairLasso : Circuit → ℕ → Type 0
HasFairLasso c j = (run : List Position) × (from : ℕ) × IsFairLasso c j run from
