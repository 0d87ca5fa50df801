-- What contracts see of a trail: its steps, the clauses that it took over, and their watched literals.
use Rattle.std.specs.Prelude.{◌≡◌, ℕ, ◌-◌, false, true, List, ◌++◌, Option, Some, slice_get}
use Rattle.proof_semantics.specs.Clauses.{lit_eq, has_literal}
use Rattle.proof_semantics.specs.declared.literals.Lit.{Lit}
use Rattle.cdcl_trail.specs.Trails.{Step}
use Rattle.cdcl_trail.specs.Propagation.{is_true, is_false}
use Rattle.cnf.specs.Clauses.{clause_numbered}
use Rattle.cdcl_trail.specs.Guards.{IsPairOf}
use Rattle.cdcl_trail.specs.declared.pairs.Pair.{Pair}

-- The steps, from the first to the last; the clauses that were taken over; and the two watched literals of each, none
-- for a clause that has no two different ones.
pub record TrailState : Type 0 where
  pub steps : List Step
  pub taken : List (List Lit)
  pub watched : List (Option Pair)

-- the later clauses are the earlier ones, and then others
abbrev pub Extends : List (List Lit) → List (List Lit) → Type 0
Extends earlier later = (more : List (List Lit)) × (later ≡ earlier ++ more)

-- the clause has two different literals
abbrev pub HasTwo : List Lit → Type 0
HasTwo clause = (a : Lit) × (b : Lit) × (has_literal clause a ≡ true) × (has_literal clause b ≡ true) × (lit_eq a b ≡ false)

-- the same clauses, watched at the same literals
pub record KeepWatch (earlier later : TrailState) : Type 0 where
  pub taken : later.taken ≡ earlier.taken
  pub watched : later.watched ≡ earlier.watched

-- a watched literal that is false stands beside a true one
abbrev pub AreWatchedWell : TrailState → Type 0
AreWatchedWell t =
    (place : ℕ) (pair : Pair) → slice_get t.watched place ≡ Some (Some pair)
    → (is_false t.steps pair.first ≡ true → is_true t.steps pair.second ≡ true)
    × (is_false t.steps pair.second ≡ true → is_true t.steps pair.first ≡ true)

-- the clause with the number was taken over, and has two different literals
abbrev pub IsWatchable : TrailState → ℕ → Type 0
IsWatchable t number = (clause : List Lit) × (clause_numbered t.taken number ≡ Some clause) × HasTwo clause

-- The two are those at which the clause with the number is watched, and are two different literals of it.
pub record IsWatchedAt (t : TrailState) (number : ℕ) (a b : Lit) : Type 0 where
  pub pair : slice_get t.watched (number - 1) ≡ Some (Some (record { first = a; second = b }))
  pub inside : (clause : List Lit) → clause_numbered t.taken number ≡ Some clause
      → IsPairOf clause (record { first = a; second = b })
