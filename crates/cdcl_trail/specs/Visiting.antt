-- Scaffolding of inner functions. What a look at one clause does.
use Rattle.std.specs.Prelude.{◌≡◌, ◌⊎◌, ℕ, suc, ◌<◌, ◌≤◌, Bool, true, false, List, [], ◌∷◌, ◌++◌, length, Option, None, Some, slice_get}
use Rattle.std.specs.List.{list_any}
use Rattle.proof_semantics.specs.Clauses.{lit_eq}
use Rattle.proof_semantics.specs.declared.literals.Lit.{Lit}
use Rattle.packed_literals.specs.Lists.{IsWithout, list_for}
use Rattle.cdcl_trail.specs.Trails.{Step, forced}
use Rattle.cdcl_trail.specs.Propagation.{is_true, is_fixed, is_falsified, is_unit_for, IsConflict, Propagates}
use Rattle.cdcl_trail.specs.Guards.{IsDone, AreGuarded, AreSure, KeepsGuards}
use Rattle.cdcl_trail.specs.Storing.{held, IsRewatched, IsPairAt, IsOther, Covers}
use Rattle.cdcl_trail.specs.declared.pairs.Pair.{Pair}
use Rattle.cdcl_trail.specs.declared.propagation.Visited.{Visited}
use Rattle.cdcl_trail.specs.declared.propagation.Visited.TheVariants.{Stands, Left, Conflict}
use Rattle.cdcl_trail.specs.declared.watching.Watching.{Watching}

-- A look at a clause leaves the other clauses as they are, and so the places before it in the list of the literal.
pub record IsVisited (w : Watching) (before : List Step) (u : Watching) (after : List Step) (a : Lit) (place : ℕ) : Type 0 where
  pub rewatched : IsRewatched w u
  pub steps : Propagates (held w) before after
  pub keeps : KeepsGuards before w.pairs.items u.pairs.items
  pub covers : Covers (is_fixed after) u
  pub below : (j : ℕ) → j < place → slice_get (list_for u.lists a) j ≡ slice_get (list_for w.lists a) j
  pub done : (n : ℕ) (pair : Pair) → IsPairAt u n pair → IsPairAt w n pair ⊎ IsDone after a pair

-- the literal beside a given one at which a clause is watched; none where the given one is not watched
abbrev pub IsWatchedBeside : Watching → ℕ → Lit → Option Lit → Type 0
IsWatchedBeside w n a None = (pair : Pair) → IsPairAt w n pair → (lit_eq pair.first a ≡ false) × (lit_eq pair.second a ≡ false)
IsWatchedBeside w n a (Some b) = (pair : Pair) × IsPairAt w n pair × IsOther pair a b

-- The entry at a place of the list of a literal is gone, and all else is as it was.
pub record IsUnlisted (w u : Watching) (a : Lit) (place : ℕ) : Type 0 where
  pub arena : u.arena ≡ w.arena
  pub places : u.places ≡ w.places
  pub pairs : u.pairs ≡ w.pairs
  pub singles : u.singles ≡ w.singles
  pub without : IsWithout (list_for w.lists a) place (list_for u.lists a)
  pub others : (b : Lit) → lit_eq b a ≡ false → list_for u.lists b ≡ list_for w.lists b

-- A clause with a true watched literal is skipped: nothing changes, or its entry goes where that literal is fixed.
abbrev pub SkipSays : Watching → Watching → List Step → Lit → Lit → ℕ → Visited → Type 0
SkipSays w u steps a other place Stands = u ≡ w
SkipSays w u steps a other place Left = IsUnlisted w u a place × (is_fixed steps other ≡ true)
SkipSays w u steps a other place (Conflict n) = ⊥

-- what a look at a clause says: it is done and stands where it stood, its list is shorter, or it is false
abbrev pub VisitSays : Watching → Watching → List Step → Lit → ℕ → Visited → Type 0
VisitSays w u after a number Stands = (u.lists ≡ w.lists) × ((pair : Pair) → IsPairAt u number pair → IsDone after a pair)
VisitSays w u after a number Left = suc (length (list_for u.lists a)) ≡ length (list_for w.lists a)
VisitSays w u after a number (Conflict n) = IsConflict (held w) after n

-- what comes of a clause without two different literals: nothing, or its literal
abbrev pub IsSettled : List Lit → ℕ → List Step → List Step → Type 0
IsSettled clause number before after =
    (after ≡ before) ⊎ ((a : Lit) × (is_unit_for before clause a ≡ true) × (after ≡ before ++ forced a number ∷ []))

-- it has a true literal, or is false
abbrev pub SingleSays : List Lit → List Step → Bool → Type 0
SingleSays clause steps true = list_any (is_true steps) clause ≡ true
SingleSays clause steps false = is_falsified steps clause ≡ true

-- how far the looks at the clauses of a list have come
pub record IsVisiting (w : Watching) (before : List Step) (u : Watching) (now : List Step) (a : Lit) (place : ℕ) : Type 0 where
  pub rewatched : IsRewatched w u
  pub steps : Propagates (held w) before now
  pub keeps : KeepsGuards before w.pairs.items u.pairs.items
  pub covers : Covers (is_fixed now) u
  pub done : (j n : ℕ) (pair : Pair) → j < place → slice_get (list_for u.lists a) j ≡ Some n → IsPairAt u n pair → IsDone now a pair
  pub within : place ≤ length (list_for u.lists a)

-- how far propagation has come
pub record IsSettling (w : Watching) (before : List Step) (u : Watching) (now : List Step) (count : ℕ) : Type 0 where
  pub rewatched : IsRewatched w u
  pub steps : Propagates (held w) before now
  pub keeps : KeepsGuards before w.pairs.items u.pairs.items
  pub covers : Covers (is_fixed now) u
  pub within : count ≤ length now
  pub guarded : AreGuarded count now u.pairs.items

-- how far the clauses without two different literals are settled
pub record AreSettling (w : Watching) (before : List Step) (from : ℕ) (now : List Step) (count : ℕ) : Type 0 where
  pub steps : Propagates (held w) before now
  pub sure : AreSure from before w.singles.items (held w) → AreSure count now w.singles.items (held w)
  pub counted : from ≤ length w.singles.items → count ≤ length w.singles.items
