-- Scaffolding of inner functions. Runs whose states were reached, and skeletons that begin in such states.
use Rattle.std.specs.Prelude.{◌≡◌, ℕ, ◌<◌, ◌≤◌, Bool, List, [], map, length, slice_index_or}
use Rattle.aig_semantics.specs.declared.traces.Position.{Position}
use Rattle.aig_semantics.specs.Circuits.{Circuit}
use Rattle.fair_semantics.specs.declared.skeletons.Skeleton.{Skeleton}
use Rattle.fair_semantics.specs.Entries.{Entry}
use Rattle.lasso_join.specs.Fitting.{IsStemTo}
use Rattle.skeleton.specs.Finding.{IsAllowed, first_state}
use Rattle.fair_round.specs.declared.pool.Run.{Run}
use Rattle.fair_round.specs.declared.pool.Hit.{Hit}
use Rattle.fair_round.specs.declared.pool.Begun.{Begun}
use Rattle.fair_round.specs.declared.seeking.Beginning.{Beginning}
use Rattle.fair_round.specs.declared.seeking.Beginning.TheVariants as beginnings
use Rattle.fair_round.specs.Walks.{Excludes, entry_of_bar}

-- an initial run
abbrev pub IsReachedRun : Circuit → List Position → Type 0
IsReachedRun c positions = (t : List Bool) × IsStemTo c t positions

-- an initial run, of which no more positions are left than it has
pub record IsRun (c : Circuit) (r : Run) : Type 0 where
  pub run : IsReachedRun c r.positions
  pub within : r.left ≤ length r.positions

-- an allowed skeleton whose first state is this one
abbrev pub IsBegunIn : Circuit → ℕ → List Entry → List Bool → Skeleton → Type 0
IsBegunIn c j view state skeleton = IsAllowed c j view skeleton × (first_state skeleton ≡ state)

-- an allowed skeleton whose first state is that of a position of the run
pub record IsHit (c : Circuit) (j : ℕ) (view : List Entry) (positions : List Position) (hit : Hit) : Type 0 where
  pub inside : hit.at < length positions
  pub begins : IsBegunIn c j view (slice_index_or (map (λ p. p.latches) positions) hit.at []) hit.skeleton

-- an allowed skeleton, and an initial run to its first state
pub record IsBegun (c : Circuit) (j : ℕ) (view : List Entry) (begun : Begun) : Type 0 where
  pub allowed : IsAllowed c j view begun.skeleton
  pub way : IsStemTo c (first_state begun.skeleton) begun.way

-- such a skeleton, or an allowed one and an entry that excludes it
abbrev pub IsBeginning : Circuit → ℕ → List Entry → Beginning → Type 0
IsBeginning c j view (beginnings.Begun begun) = IsBegun c j view begun
IsBeginning c j view (beginnings.Barred bar skeleton) =
    IsAllowed c j view skeleton × Excludes c view (entry_of_bar bar) skeleton
