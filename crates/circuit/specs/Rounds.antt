-- How many rounds of a property a run has.
use Rattle.std.specs.Prelude.{ℕ, ◌≤◌, List}
use Rattle.aig_semantics.specs.declared.traces.Position.{Position}
use Rattle.aig_semantics.specs.Circuits.{Circuit}
use Rattle.fair_semantics.specs.Rounds.{HasRounds}

-- the run has n rounds of property j, and no more
pub record IsMostRounds (c : Circuit) (j : ℕ) (run : List Position) (n : ℕ) : Type 0 where
  pub has : HasRounds c j n run
  pub most : (m : ℕ) → HasRounds c j m run → m ≤ n
