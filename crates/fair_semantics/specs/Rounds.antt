-- Rounds of a run: how often it meets the fairness of a property anew. An infinite run that is fair, as AIGER 1.9 (Biere,
-- Heljanko, Wieringa, 2011) has it, begins with runs of any number of rounds.
use Rattle.std.specs.Prelude.{◌≡◌, ℕ, zero, suc, ◌<◌, ◌≤◌, ◌^◌, List, ◌++◌, length}
use Rattle.aig_semantics.specs.declared.traces.Position.{Position}
use Rattle.aig_semantics.specs.Circuits.{Circuit}
use Rattle.aig_semantics.specs.Runs.{IsInitialRun, MeetsFairness}

-- A round of property j: some positions, at which, in any order, each literal of the property and each fairness literal is
-- true.
pub record IsRound (c : Circuit) (j : ℕ) (positions : List Position) : Type 0 where
  pub some : 0 < length positions
  pub fair : MeetsFairness c j positions

-- Of the positions n segments, one behind the other and none over another, are rounds.
abbrev pub HasRounds : Circuit → ℕ → ℕ → List Position → Type 0
HasRounds c j zero positions = Unit {0}
HasRounds c j (suc n) positions =
    (front : List Position) × (segment : List Position) × (rest : List Position)
    × (positions ≡ front ++ segment ++ rest) × IsRound c j segment × HasRounds c j n rest

-- No initial run, however long, has more rounds of the property than there are states of the latches.
abbrev pub HasFewRounds : Circuit → ℕ → Type 0
HasFewRounds c j =
    (run : List Position) (n : ℕ) → IsInitialRun c run → HasRounds c j n run → n ≤ 2 ^ length c.latches
