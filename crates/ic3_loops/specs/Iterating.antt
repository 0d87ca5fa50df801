-- What an iteration of a search comes to (scaffolding): after it there is a path, or two frames with the same lemmas (IC3:
-- Bradley, 2011), or one frame more.
use Rattle.std.specs.Prelude.{◌≡◌, ℕ, ◌+◌, ◌<◌, ◌≤◌, List, length}
use Rattle.proof_semantics.specs.declared.literals.Lit.{Lit}
use Rattle.ic3_frames.specs.Frames.{frame_at}
use Rattle.ic3_frames.specs.Room.{allowed_by}
use Rattle.ic3_semantics.specs.declared.questions.Goal.{Goal}
use Rattle.ic3_loops.specs.declared.iterating.Iterated.{Iterated}
use Rattle.ic3_loops.specs.declared.iterating.Iterated.TheVariants.{Path, Closed, More}
use Rattle.ic3_semantics.specs.Searching.{Question, IsPath, Misses}

-- The frame of a level has the lemmas of the next one, and allows no state of the goal.
pub record IsClosedAt (q : Question) (goal : Goal) (levels : List (List (List Lit))) (level : ℕ) : Type 0 where
  pub below : level + 1 < length levels
  pub same : frame_at levels level ≡ frame_at levels (level + 1)
  pub misses : Misses q goal (allowed_by (frame_at levels (level + 1)))

-- a path, such a level, or a frame more
abbrev pub IsIterated : Question → Goal → List (List (List Lit)) → Iterated → Type 0
IsIterated q goal levels (Path positions) = IsPath q goal positions
IsIterated q goal levels (Closed level) = IsClosedAt q goal levels level
IsIterated q goal levels More = Unit {0}

-- where the search goes on there is less room
abbrev pub TakesRoom : ℕ → ℕ → Iterated → Type 0
TakesRoom old new (Path positions) = Unit {0}
TakesRoom old new (Closed level) = Unit {0}
TakesRoom old new More = new + 1 ≤ old

-- it does not go on
abbrev pub HasEnded : Iterated → Type 0
HasEnded (Path positions) = Unit {0}
HasEnded (Closed level) = Unit {0}
HasEnded More = ⊥
