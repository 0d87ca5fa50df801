-- Stimuli, after the witnesses of AIGER 1.9 (Biere, Heljanko, Wieringa, 2011), and the runs that they give. Which of its
-- lassos a stimulus stands for is a rule of this program.
use Rattle.std.specs.Prelude.{◌≡◌, ℕ, ◌≤◌, Bool, List, [], ◌∷◌, length, take}
use Rattle.std.specs.List.{All}
use Rattle.aig_semantics.specs.declared.traces.Position.{Position}
use Rattle.aig_semantics.specs.declared.traces.Stimulus.{Stimulus}
use Rattle.aig_semantics.specs.declared.traces.Lasso.{Lasso}
use Rattle.aig_semantics.specs.Circuits.{Circuit}
use Rattle.aig_semantics.specs.Runs.{position_of, successor, IsFairLasso}

-- the first position has these latches, and each later one the successor of the one before
unfoldable pub simulated : Circuit → List Bool → List (List Bool) → List Position
simulated c latches [] = []
simulated c latches (now ∷ later) = position_of latches now ∷ simulated c (successor c (position_of latches now)) later

-- the state that follows the last of these positions
unfoldable pub state_after : Circuit → List Bool → List (List Bool) → List Bool
state_after c latches [] = latches
state_after c latches (now ∷ later) = state_after c (successor c (position_of latches now)) later

-- a stimulus with a value for each latch, and for each input at each position
pub record FitsCircuit (c : Circuit) (stimulus : Stimulus) : Type 0 where
  pub latches : length stimulus.latches ≡ length c.latches
  pub inputs : All (λ values. length values ≡ length c.inputs) stimulus.inputs

-- the first k positions are a fair lasso of property j that steps back to place `from`
pub record HasLasso (c : Circuit) (j : ℕ) (stimulus : Stimulus) (k from : ℕ) : Type 0 where
  pub fits : FitsCircuit c stimulus
  pub inside : k ≤ length stimulus.inputs
  pub lasso : IsFairLasso c j (simulated c stimulus.latches (take k stimulus.inputs)) from

-- the lasso that a stimulus stands for: of those that it has one with the fewest positions, and of these the one with the least place
pub record StandsFor (c : Circuit) (j : ℕ) (stimulus : Stimulus) (k from : ℕ) : Type 0 where
  pub has : HasLasso c j stimulus k from
  pub shortest : (n place : ℕ) → HasLasso c j stimulus n place → k ≤ n
  pub earliest : (place : ℕ) → HasLasso c j stimulus k place → from ≤ place

-- a lasso, kept as a stimulus and a place, that is a fair lasso of property j
abbrev pub IsFairLassoOf : Circuit → ℕ → Lasso → Type 0
IsFairLassoOf c j lasso = IsFairLasso c j (simulated c lasso.start lasso.inputs) lasso.from
