-- What the tests see to piece by piece (scaffolding).
use Rattle.std.specs.Prelude.{ℕ, ◌+◌, ◌%◌, ◌<◌, [], List, length, slice_index_or}
use Rattle.aig_semantics.specs.declared.traces.Position.{Position}
use Rattle.aig_semantics.specs.Circuits.{Circuit}
use Rattle.fair_semantics.specs.declared.skeletons.Skeleton.{Skeleton}
use Rattle.lasso_join.specs.Fitting.{LeadsTo, state_at, successor_at}

-- each of the first n pieces leads to the state of the next position, cyclically
abbrev pub ArePieces : Circuit → Skeleton → List (List Position) → ℕ → Type 0
ArePieces c skeleton pieces n =
    (i : ℕ) → i < n → LeadsTo c (successor_at skeleton i) (state_at skeleton ((i + 1) % length pieces)) (slice_index_or pieces i [])
