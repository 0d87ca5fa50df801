-- Skeletons of a property, after FAIR (Bradley, Somenzi, Hassan, Zhang, 2011). That successors are among the places is
-- this program's.
use Rattle.std.specs.Prelude.{◌≡◌, ℕ, ◌<◌, max, Bool, not, List, [], ◌∷◌, length, IsTrue}
use Rattle.std.specs.List.{All, flat_map}
use Rattle.aig_semantics.specs.Circuits.{Circuit, fair_literals}
use Rattle.aig_semantics.specs.Runs.{literal_at, successor, MeetsConstraints}
use Rattle.fair_semantics.specs.declared.skeletons.Situation.{Situation}
use Rattle.fair_semantics.specs.declared.skeletons.Skeleton.{Skeleton}
use Rattle.fair_semantics.specs.Entries.{Entry, entry_at, set_at}
use Rattle.fair_semantics.specs.Allowing.{allows_by}

-- a position at which every constraint is true, with its successor
pub record IsSituation (c : Circuit) (s : Situation) : Type 0 where
  pub possible : MeetsConstraints c s.position
  pub next : s.successor ≡ successor c s.position

-- the first literal is true at the first position, the second at the second, and so on
abbrev pub AreTrueInTurn : Circuit → List ℕ → List Situation → Type 0
AreTrueInTurn c [] situations = Unit {0}
AreTrueInTurn c (literal ∷ literals) [] = ⊥
AreTrueInTurn c (literal ∷ literals) (s ∷ situations) =
    IsTrue (literal_at c s.position literal) × AreTrueInTurn c literals situations

-- A situation for each literal of property j and each fairness literal, at which that literal is true; where there is
-- no literal, one situation.
pub record IsSkeleton (c : Circuit) (j : ℕ) (skeleton : Skeleton) : Type 0 where
  pub property : j < length c.justice
  pub size : length skeleton.situations ≡ max 1 (length (fair_literals c j))
  pub situations : All (IsSituation c) skeleton.situations
  pub fair : AreTrueInTurn c (fair_literals c j) skeleton.situations

-- all states and successors of the situations
abbrev pub states_of : List Situation → List (List Bool)
states_of situations = flat_map (λ s. s.position.latches ∷ s.successor ∷ []) situations

abbrev pub places : Skeleton → List (List Bool)
places skeleton = states_of skeleton.situations

-- entry n of a list does not allow the skeleton
abbrev pub excludes : List Entry → ℕ → Skeleton → Bool
excludes entries n skeleton = not (allows_by (entry_at entries n).kind (set_at entries n) (places skeleton))
