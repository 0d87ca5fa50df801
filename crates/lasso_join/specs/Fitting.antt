-- Stems, skeletons and pieces that fit together, after FAIR (Bradley, Somenzi, Hassan, Zhang, 2011).
use Rattle.std.specs.Prelude.{◌≡◌, ℕ, ◌+◌, ◌%◌, ◌<◌, Bool, List, [], ◌∷◌, ◌++◌, map, length, slice_index_or}
use Rattle.aig_semantics.specs.declared.traces.Position.{Position}
use Rattle.aig_semantics.specs.Circuits.{Circuit}
use Rattle.aig_semantics.specs.Runs.{successor, StartsIn, IsRun, IsInitial}
use Rattle.fair_semantics.specs.declared.skeletons.Situation.{Situation}
use Rattle.fair_semantics.specs.declared.skeletons.Skeleton.{Skeleton}

-- where positions lead from a state: to the last one's successor; where there is none, to the state itself
abbrev pub end_of : Circuit → List Bool → List Position → List Bool
end_of c s [] = s
end_of c s (p ∷ positions) = end_of c (successor c p) positions

-- A run from state s to state t: its first state is s, and its last successor is t. A run of no position leads from a
-- state to itself.
pub record LeadsTo (c : Circuit) (s t : List Bool) (positions : List Position) : Type 0 where
  pub is_run : IsRun c positions
  pub starts : StartsIn s positions
  pub ends : end_of c s positions ≡ t

-- an initial run to state t; where it has no position, t is initial
pub record IsStemTo (c : Circuit) (t : List Bool) (positions : List Position) : Type 0 where
  pub start : List Bool
  pub is_initial : IsInitial c start
  pub leads : LeadsTo c start t positions

-- the state of position i, and its successor
abbrev pub state_at : Skeleton → ℕ → List Bool
state_at skeleton i = slice_index_or (map (λ s. s.position.latches) skeleton.situations) i []

abbrev pub successor_at : Skeleton → ℕ → List Bool
successor_at skeleton i = slice_index_or (map (λ s. s.successor) skeleton.situations) i []

-- The stem is an initial run to the first state of the skeleton; there are as many pieces as positions; and piece i is
-- a run from the successor of position i to the state of position i + 1, cyclically.
pub record Fit (c : Circuit) (stem : List Position) (skeleton : Skeleton) (pieces : List (List Position)) : Type 0 where
  pub stem_leads : IsStemTo c (state_at skeleton 0) stem
  pub count : length pieces ≡ length skeleton.situations
  pub pieces_lead : (i : ℕ) → i < length pieces →
      LeadsTo c (successor_at skeleton i) (state_at skeleton ((i + 1) % length pieces)) (slice_index_or pieces i [])

-- the positions of a skeleton, with piece i behind position i
abbrev pub loop_of : List Situation → List (List Position) → List Position
loop_of [] pieces = []
loop_of (s ∷ situations) [] = s.position ∷ loop_of situations []
loop_of (s ∷ situations) (piece ∷ pieces) = s.position ∷ piece ++ loop_of situations pieces
