-- Scaffolding of inner functions. The state of a trail over numbers, by what it keeps.
use Rattle.std.specs.Prelude.{◌≡◌, ℕ, ◌<◌, ◌≤◌, List, length, take, Some, slice_get}
use Rattle.proof_semantics.specs.declared.literals.Lit.{Lit}
use Rattle.cdcl_trail.specs.Trails.{Step, level, up_to_level}
use Rattle.cdcl_trail.specs.Guards.{AreGuarded, AreSure}
use Rattle.cdcl_trail.specs.Propagation.{is_fixed}
use Rattle.cdcl_trail.specs.Storing.{held, IsStored, Covers}
use Rattle.cdcl_trail.specs.Watched.{Extends, TrailState}
use Rattle.cdcl_trail.specs.declared.tracks.Reached.{Reached}
use Rattle.cdcl_trail.specs.declared.tracks.Tracks.TheInside.{Inside}
use Rattle.cdcl_trail.specs.declared.watching.Watching.{Watching}

abbrev pub state_of : Inside → TrailState
state_of t = record { steps = t.assignment.steps; taken = held t.watching; watched = t.watching.pairs.items }

-- Propagation over the steps has come so far.
pub record HasReached (reached : Reached) (steps : List Step) (w : Watching) : Type 0 where
  pub guarded : AreGuarded reached.steps steps w.pairs.items
  pub sure : AreSure reached.singles steps w.singles.items (held w)
  pub within : reached.steps ≤ length steps
  pub counted : reached.singles ≤ length w.singles.items

-- For the present, and for each open level below the last, propagation over its steps has come as far as it is told.
pub record Sound (steps : List Step) (w : Watching) (reached : Reached) (saved : List Reached) : Type 0 where
  pub stored : IsStored w
  pub covers : Covers (is_fixed steps) w
  pub present : HasReached reached steps w
  pub depth : length saved ≡ level steps
  pub levels : (n : ℕ) (earlier : Reached) → slice_get saved n ≡ Some earlier → HasReached earlier (up_to_level n steps) w

abbrev pub IsSound : Inside → Type 0
IsSound t = Sound t.assignment.steps t.watching t.reached t.saved.items

-- the place was no lower, and is not above the bound
abbrev pub IsLowered : List Reached → ℕ → ℕ → Reached → Type 0
IsLowered earlier n bound r =
    (q : Reached) × (slice_get earlier n ≡ Some q) × (r.steps ≤ q.steps) × (r.steps ≤ bound) × (r.singles ≡ q.singles)

-- Each place came down to the bound at least.
pub record AreLowered (earlier : List Reached) (bound : ℕ) (later : List Reached) : Type 0 where
  pub as_many : length later ≡ length earlier
  pub lowered : (n : ℕ) (r : Reached) → slice_get later n ≡ Some r → IsLowered earlier n bound r

-- the clauses before the place were taken over, behind those that were so at first
pub record IsTaking (earlier : List Step) (first clauses : List (List Lit)) (steps : List Step) (taken : List (List Lit)) (place : ℕ) : Type 0 where
  pub same : steps ≡ earlier
  pub fronts : taken ≡ take place clauses
  pub grown : Extends first taken

-- the places before this one came down, and the others are as they were
pub record IsLowering (earlier : List Reached) (bound : ℕ) (later : List Reached) (place : ℕ) : Type 0 where
  pub as_many : length later ≡ length earlier
  pub before : (n : ℕ) (r : Reached) → n < place → slice_get later n ≡ Some r → IsLowered earlier n bound r
  pub behind : (n : ℕ) → place ≤ n → slice_get later n ≡ slice_get earlier n
