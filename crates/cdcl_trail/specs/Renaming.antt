-- Scaffolding of inner functions. A trail over numbers of variables, and the one over their names that it stands for.
use Rattle.std.specs.Prelude.{◌≡◌, ℕ, ◌<◌, ◌≤◌, List, ◌++◌, length, map, take, Option, Some, slice_get}
use Rattle.std.specs.List.{AllByRecursion}
use Rattle.std.specs.Option.{option_map}
use Rattle.proof_semantics.specs.declared.literals.Lit.{Lit}
use Rattle.packed_literals.specs.Naming.{named, AreApart}
use Rattle.cdcl_trail.specs.Trails.{Step, step}
use Rattle.cdcl_trail.specs.Guards.{IsPairOf}
use Rattle.cdcl_trail.specs.Watched.{TrailState}
use Rattle.cdcl_trail.specs.declared.pairs.Pair.{Pair}

abbrev pub named_step : List ℕ → Step → Step
named_step names s = step (named names s.literal) s.reason

abbrev pub named_steps : List ℕ → List Step → List Step
named_steps names steps = map (named_step names) steps

abbrev pub named_clause : List ℕ → List Lit → List Lit
named_clause names clause = map (named names) clause

abbrev pub named_clauses : List ℕ → List (List Lit) → List (List Lit)
named_clauses names clauses = map (named_clause names) clauses

abbrev pub named_pair : List ℕ → Pair → Pair
named_pair names pair = record { first = named names pair.first; second = named names pair.second }

-- the literal is over one of the first n numbers
abbrev pub IsBelow : ℕ → Lit → Type 0
IsBelow n a = a.var < n

abbrev pub AreBelow : ℕ → List Lit → Type 0
AreBelow n lits = AllByRecursion (IsBelow n) lits

abbrev pub StepsAreBelow : ℕ → List Step → Type 0
StepsAreBelow n steps = AllByRecursion (λ s. IsBelow n s.literal) steps

abbrev pub ClausesAreBelow : ℕ → List (List Lit) → Type 0
ClausesAreBelow n clauses = AllByRecursion (AreBelow n) clauses

abbrev pub PairIsBelow : ℕ → Pair → Type 0
PairIsBelow n pair = IsBelow n pair.first × IsBelow n pair.second

abbrev pub PairsAreBelow : ℕ → List (Option Pair) → Type 0
PairsAreBelow n watched = (place : ℕ) (pair : Pair) → slice_get watched place ≡ Some (Some pair) → PairIsBelow n pair

abbrev pub named_pairs : List ℕ → List (Option Pair) → List (Option Pair)
named_pairs names watched = map (option_map (named_pair names)) watched

-- what is seen of a trail, by what is seen of the one over its numbers
abbrev pub named_state : List ℕ → TrailState → TrailState
named_state names t = record { steps = named_steps names t.steps; taken = named_clauses names t.taken; watched = named_pairs names t.watched }

-- All is over the first n numbers.
pub record StateIsBelow (n : ℕ) (t : TrailState) : Type 0 where
  pub steps : StepsAreBelow n t.steps
  pub taken : ClausesAreBelow n t.taken
  pub watched : PairsAreBelow n t.watched

-- Each pair is one of the clause beside it.
abbrev pub ArePaired : TrailState → Type 0
ArePaired t =
    (place : ℕ) (pair : Pair) → slice_get t.watched place ≡ Some (Some pair)
    → (clause : List Lit) × (slice_get t.taken place ≡ Some clause) × IsPairOf clause pair

-- The later names are the earlier ones and then others, and none comes twice where none did.
pub record Meets (names later : List ℕ) : Type 0 where
  pub more : List ℕ
  pub behind : later ≡ names ++ more
  pub apart : AreApart names → AreApart later

-- the first literals of a clause are numbered
pub record IsNumbering (first names : List ℕ) (numbered done : List Lit) : Type 0 where
  pub meets : Meets first names
  pub below : AreBelow (length names) numbered
  pub same : named_clause names numbered ≡ done

-- the first literals are shown
pub record IsShowing (names : List ℕ) (lits shown : List Lit) (place : ℕ) : Type 0 where
  pub same : shown ≡ take place (named_clause names lits)
  pub within : place ≤ length lits
