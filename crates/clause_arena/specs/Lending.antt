-- What an arena lends: the elements from one place to another of all that were pushed, one list behind the other.
use Rattle.std.specs.Prelude.{◌≡◌, ◌≤◌, List, length, slice_range}
use Rattle.clause_arena.specs.declared.Ref.{Ref}

-- The two places of the reference are in order and within the arena that has these elements. Each reference that it gave is
-- so, also behind later pushes.
pub record IsRefOf {T : Type 0} (elements : List T) (place : Ref) : Type 0 where
  pub ordered : place.start ≤ place.end
  pub within : place.end ≤ length elements

-- what the reference stands for
abbrev pub lent : {T : Type 0} → List T → Ref → List T
lent elements place = slice_range elements place.start place.end

-- what each reference of the earlier arena stands for, it stands for in the later one
abbrev pub StaysLent : {T : Type 0} → List T → List T → Type 0
StaysLent earlier later = (place : Ref) → IsRefOf earlier place → IsRefOf later place × (lent later place ≡ lent earlier place)
