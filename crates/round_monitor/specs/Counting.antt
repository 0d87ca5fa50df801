-- What the counters of a monitor tell of the rounds of a run.
use Rattle.std.specs.Prelude.{◌≡◌, ◌↔◌, ℕ, ◌+◌, ◌-◌, ◌<◌, List, map, length, take, Some, slice_get, slice_index_or, false, IsTrue}
use Rattle.aig_semantics.specs.declared.traces.Position.{Position}
use Rattle.aig_semantics.specs.Circuits.{Circuit, fair_literals}
use Rattle.aig_semantics.specs.Runs.{position_of, successor, IsInitialRun}
use Rattle.fair_semantics.specs.Rounds.{HasRounds}

-- some initial run has k rounds of property j, or more
abbrev pub HasRunOfRounds : Circuit → ℕ → ℕ → Type 0
HasRunOfRounds c j k = (run : List Position) × IsInitialRun c run × HasRounds c j k run

-- a position of a monitor without the latches that watch
abbrev pub own_position : Circuit → Position → Position
own_position c p = position_of (take (length c.latches) p.latches) p.inputs

-- an initial run, not empty, behind whose last position the last latch is true; no constraint is asked of that state
pub record IsFullRun (t : Circuit) (run : List Position) : Type 0 where
  pub initial : IsInitialRun t run
  pub last : Position
  pub is_last : slice_get run (length run - 1) ≡ Some last
  pub full : IsTrue (slice_index_or (successor t last) (length t.latches - 1) false)

abbrev pub HasFullRun : Circuit → Type 0
HasFullRun t = (run : List Position) × IsFullRun t run

-- t watches the rounds of property j of a circuit, and counts them up to k.
pub record WatchesRounds (c : Circuit) (j k : ℕ) (t : Circuit) : Type 0 where
  -- an initial run of t, without the latches that watch, is one of the circuit
  pub sound : (run : List Position) → IsInitialRun t run → IsInitialRun c (map (own_position c) run)
  -- each initial run of the circuit is such a run
  pub complete : (run : List Position) → IsInitialRun c run
      → (watched : List Position) × IsInitialRun t watched × (map (own_position c) watched ≡ run)
  -- behind it counter i, counted from 0, is true exactly where the run has more than i rounds
  pub counts : (run : List Position) (last : Position) (i : ℕ) → IsInitialRun t run → slice_get run (length run - 1) ≡ Some last → i < k
      → (IsTrue (slice_index_or (successor t last) (length c.latches + length (fair_literals c j) + i) false)
      ↔ HasRounds c j (i + 1) (map (own_position c) run))
