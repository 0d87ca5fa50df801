-- A run under way: the state that comes next, and where states and literals were met (scaffolding).
use Rattle.std.specs.Prelude.{◌≡◌, ◌≢◌, ℕ, ◌-◌, ◌<◌, Bool, List, drop, map, Some, unwrap_or, IsTrue, All, Any, if◌then◌else◌}
use Rattle.aig_semantics.specs.Circuits.{Circuit}
use Rattle.aig_semantics.specs.Runs.{position_of, successor, literal_at}
use Rattle.stimulus.specs.declared.walks.Walk.{Walk}
use Rattle.stimulus.specs.declared.walks.Watched.{Watched}
use Rattle.stimulus.specs.Places.{packed, place_at}

-- one more than the last place where the test holds, or 0: the places before it are those from which on it holds somewhere
pub record IsEndOf {X : Type 0} (test : X → Bool) (xs : List X) (end : ℕ) : Type 0 where
  pub within : (k : ℕ) → k < end → Any (λ x. IsTrue (test x)) (drop k xs)
  pub behind : (k : ℕ) → Any (λ x. IsTrue (test x)) (drop k xs) → k < end

-- a literal that was not met yet
abbrev pub unmet : ℕ → Watched
unmet literal = record { literal = literal; end = 0 }

-- a literal that is watched, after a position that has this number
abbrev pub watched_after : (ℕ → Bool) → ℕ → Watched → Watched
watched_after value number w = record { literal = w.literal; end = if value w.literal then number else w.end }

-- the walk has gone one position on, with these inputs and this number
pub record GoesOn (c : Circuit) (inputs : List Bool) (number : ℕ) (old new : Walk) : Type 0 where
  pub there : place_at new.places old.key.items ≡ Some (unwrap_or (place_at old.places old.key.items) (number - 1))
  pub others : (key : List ℕ) → key ≢ old.key.items → place_at new.places key ≡ place_at old.places key
  pub next : new.next ≡ successor c (position_of old.next inputs)
  pub key : new.key.items ≡ packed new.next
  pub watched : new.watched.items ≡ map (watched_after (literal_at c (position_of old.next inputs)) number) old.watched.items

-- the first place that is kept for the state that comes next, where a loop from there has all that is watched
pub record ClosesFrom (walk : Walk) (from : ℕ) : Type 0 where
  pub kept : place_at walk.places walk.key.items ≡ Some from
  pub seen : All (λ w. from < w.end) walk.watched.items
