-- What a query for skeletons answers, after FAIR (Bradley, Somenzi, Hassan, Zhang, 2011). That a skeleton is asked for
-- from a given state on, and that states in which none begins are told as a cube, is this program's.
use Rattle.std.specs.Prelude.{◌≡◌, ℕ, ◌<◌, Bool, true, false, List, [], map, length, slice_index_or}
use Rattle.std.specs.List.{All}
use Rattle.aig_semantics.specs.Circuits.{Circuit}
use Rattle.proof_semantics.specs.Clauses.{cube_value, values_of}
use Rattle.proof_semantics.specs.declared.literals.Lit.{Lit}
use Rattle.fair_semantics.specs.declared.skeletons.Skeleton.{Skeleton}
use Rattle.fair_semantics.specs.Entries.{Entry, numbered}
use Rattle.fair_semantics.specs.Allowing.{allow}
use Rattle.fair_semantics.specs.Skeletons.{IsSkeleton, places}
use Rattle.entry.specs.Proved.{IsGoodRefutation}
use Rattle.skeleton.specs.declared.finding.Found.{Found}
use Rattle.skeleton.specs.declared.finding.Found.TheVariants as found
use Rattle.skeleton.specs.declared.finding.First.{First}
use Rattle.skeleton.specs.declared.finding.First.TheVariants as first

-- What contracts see of a query: its circuit, the number of its property, and the entries that it has seen.
pub record Asking : Type 0 where
  pub circuit : Circuit
  pub property : ℕ
  pub seen : List Entry

-- a skeleton of property j that all these entries allow
pub record IsAllowed (c : Circuit) (j : ℕ) (entries : List Entry) (s : Skeleton) : Type 0 where
  pub skeleton : IsSkeleton c j s
  pub allowed : allow (numbered entries) (places s) ≡ true

-- there is none
abbrev pub AllowsNone : Circuit → ℕ → List Entry → Type 0
AllowsNone c j entries = (s : Skeleton) → IsAllowed c j entries s → ⊥

-- An allowed skeleton; or a good refutation, and there is no allowed skeleton.
abbrev pub IsFound : Circuit → ℕ → List Entry → Found → Type 0
IsFound c j entries (found.Skeleton s) = IsAllowed c j entries s
IsFound c j entries (found.Refuted r) = IsGoodRefutation c entries j r.uses r.proof × AllowsNone c j entries

-- the state of the first situation
abbrev pub first_state : Skeleton → List Bool
first_state skeleton = slice_index_or (map (λ s. s.position.latches) skeleton.situations) 0 []

-- The cube is over the latches, and no allowed skeleton of property j has its first state in it.
pub record BeginsNone (c : Circuit) (j : ℕ) (entries : List Entry) (cube : List Lit) : Type 0 where
  pub over : All (λ l. l.var < length c.latches) cube
  pub none : (s : Skeleton) → IsAllowed c j entries s → cube_value (values_of (first_state s)) cube ≡ false

-- An allowed skeleton whose first state is this one; or a cube that holds the state, and in which none begins.
abbrev pub IsFirst : Circuit → ℕ → List Entry → List Bool → First → Type 0
IsFirst c j entries state (first.Skeleton s) = IsAllowed c j entries s × (first_state s ≡ state)
IsFirst c j entries state (first.Never cube) =
    BeginsNone c j entries cube × (cube_value (values_of state) cube ≡ true)
