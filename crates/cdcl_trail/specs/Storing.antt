-- Scaffolding of inner functions. What is kept of the clauses that were taken over.
use Rattle.std.specs.Prelude.{◌≡◌, ◌⊎◌, ℕ, Bool, true, List, [], ◌∷◌, ◌++◌, map, Option, Some, None, length, slice_get}
use Rattle.proof_semantics.specs.declared.literals.Lit.{Lit}
use Rattle.clause_arena.specs.Lending.{IsRefOf, lent}
use Rattle.clause_arena.specs.declared.Ref.{Ref}
use Rattle.packed_literals.specs.Lists.{IsIn, list_for}
use Rattle.packed_literals.specs.declared.lists.Lists.{Lists}
use Rattle.cdcl_trail.specs.Guards.{IsPairOf, IsSingle}
use Rattle.cdcl_trail.specs.declared.pairs.Pair.{Pair}
use Rattle.cdcl_trail.specs.declared.watching.Watching.{Watching}

-- the clauses, in their order
abbrev pub held : Watching → List (List Lit)
held w = map (lent w.arena) w.places.items

-- Each clause has a place in the arena and two different literals that are watched, or no two and stands in the list
-- of such clauses.
pub record Stores (arena : List Lit) (places : List Ref) (pairs : List (Option Pair)) (singles : List ℕ) : Type 0 where
  pub beside : length pairs ≡ length places
  pub refs : (n : ℕ) (place : Ref) → slice_get places n ≡ Some place → IsRefOf arena place
  pub paired : (n : ℕ) (pair : Pair) (clause : List Lit) → slice_get pairs n ≡ Some (Some pair)
      → slice_get (map (lent arena) places) n ≡ Some clause → IsPairOf clause pair
  pub single : (n : ℕ) (clause : List Lit) → slice_get pairs n ≡ Some None
      → slice_get (map (lent arena) places) n ≡ Some clause → IsSingle clause
  pub listed : (n : ℕ) → slice_get pairs n ≡ Some None → IsIn singles n
  pub unpaired : (j n : ℕ) → slice_get singles j ≡ Some n → slice_get pairs n ≡ Some None

abbrev pub IsStored : Watching → Type 0
IsStored w = Stores w.arena w.places.items w.pairs.items w.singles.items

-- the list of a clause's watched literal has it, unless the other one is fixed
abbrev pub IsCovered : (Lit → Bool) → Lists → ℕ → Lit → Lit → Type 0
IsCovered fixed lists n a other = IsIn (list_for lists a) n ⊎ (fixed other ≡ true)

-- each clause with two watched literals
abbrev pub AreCovered : (Lit → Bool) → Lists → List (Option Pair) → Type 0
AreCovered fixed lists pairs =
    (n : ℕ) (pair : Pair) → slice_get pairs n ≡ Some (Some pair)
    → IsCovered fixed lists n pair.first pair.second × IsCovered fixed lists n pair.second pair.first

-- Each watched literal's list has the clause, unless the other watched literal is fixed.
abbrev pub Covers : (Lit → Bool) → Watching → Type 0
Covers fixed w = AreCovered fixed w.lists w.pairs.items

-- what is covered stays so, whichever literals are fixed
abbrev pub KeepsCover : Watching → Watching → Type 0
KeepsCover earlier later = (fixed : Lit → Bool) → Covers fixed earlier → Covers fixed later

-- what the lists have stays in them
abbrev pub KeepsLists : Lists → Lists → Type 0
KeepsLists earlier later = (a : Lit) (n : ℕ) → IsIn (list_for earlier a) n → IsIn (list_for later a) n

-- the lists of a clause's watched literals have it
abbrev pub AreListed : Lists → ℕ → Option Pair → Type 0
AreListed lists n None = Unit {0}
AreListed lists n (Some pair) = IsIn (list_for lists pair.first) n × IsIn (list_for lists pair.second) n

-- The same clauses, watched at other literals maybe.
pub record IsRewatched (earlier later : Watching) : Type 0 where
  pub arena : later.arena ≡ earlier.arena
  pub places : later.places ≡ earlier.places
  pub singles : later.singles ≡ earlier.singles
  pub stored : IsStored later

-- the clause is watched at these two literals
abbrev pub IsPairAt : Watching → ℕ → Pair → Type 0
IsPairAt w n pair = slice_get w.pairs.items n ≡ Some (Some pair)

-- the one literal of the pair is a, and the other b
abbrev pub IsOther : Pair → Lit → Lit → Type 0
IsOther pair a b = ((pair.first ≡ a) × (pair.second ≡ b)) ⊎ ((pair.second ≡ a) × (pair.first ≡ b))

-- The same clauses, watched at the same literals.
pub record IsAsBefore (earlier later : Watching) : Type 0 where
  pub arena : later.arena ≡ earlier.arena
  pub places : later.places.items ≡ earlier.places.items
  pub pairs : later.pairs.items ≡ earlier.pairs.items
  pub singles : later.singles.items ≡ earlier.singles.items

-- the clauses without two different literals, with one more clause
abbrev pub has_more_singles : List ℕ → ℕ → Option Pair → List ℕ
has_more_singles singles number None = singles ++ number ∷ []
has_more_singles singles number (Some pair) = singles
