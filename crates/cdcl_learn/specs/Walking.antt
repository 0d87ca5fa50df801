-- Scaffolding of inner functions. The way back over a trail, from its last literal to the one that opened the last level.
use Rattle.std.specs.Prelude.{◌≡◌, ℕ, zero, suc, ◌+◌, ◌<◌, Bool, true, false, not, ◌&&◌, ◌||◌, ◌==◌, if◌then◌else◌, slice_index_or, List, [], ◌∷◌, ◌++◌, length, take, drop, Option, Some, None, is_some, slice_get, map, ◌⊎◌}
use Rattle.std.specs.List.{list_all}
use Rattle.proof_semantics.specs.Clauses.{lit_eq, negation, has_literal}
use Rattle.proof_semantics.specs.Propagation.{hints_fault}
use Rattle.proof_semantics.specs.declared.literals.Lit.{Lit}
use Rattle.cdcl_trail.specs.AssignmentOf.{steps_from}
use Rattle.cdcl_trail.specs.Trails.{Step, value_of, lower_steps}
use Rattle.cdcl_learn.specs.Learning.{is_assumed}
use Rattle.cdcl_trail.specs.Propagation.{is_true, is_false, is_falsified, is_unit}
use Rattle.cnf.specs.Clauses.{clause_numbered}

-- the last literal that was assumed stands at this place
pub record IsLastAssumed (reasons : List (Option ℕ)) (place : ℕ) : Type 0 where
  pub at : slice_get reasons place ≡ Some None
  pub behind : list_all (λ reason. is_some reason) (drop (suc place) reasons) ≡ true

-- The resolvent of two clauses on a literal, whose negation the first one has.
abbrev pub IsResolvent : List Lit → Lit → List Lit → List Lit → Type 0
IsResolvent clause literal reason result =
    (a : Lit) → has_literal result a
    ≡ ((has_literal clause a && not (lit_eq a (negation literal))) || (has_literal reason a && not (lit_eq a literal)))

-- Where true literals of the trail are assumed that make the clause false, the hints end in a conflict.
pub record Explains (clauses : List (List Lit)) (steps : List Step) (clause : List Lit) (hints : List ℕ) : Type 0 where
  pub some : 0 < length hints
  pub ends : (assumed : List Lit) → ((a : Lit) → has_literal assumed a ≡ true → is_true steps a ≡ true)
      → ((a : Lit) → has_literal clause a ≡ true → has_literal assumed (negation a) ≡ true)
      → hints_fault (clause_numbered clauses) assumed hints ≡ None

-- What holds of a cut of the implication graph, with the places from `place` on behind it: the clause is false by what
-- comes before, it is not false on the lower levels alone, and the hints explain it.
pub record IsConflictCut (clauses : List (List Lit)) (steps : List Step) (start place : ℕ) (clause : List Lit) (hints : List ℕ) : Type 0 where
  pub within : (a : Lit) → has_literal clause a ≡ true → is_false (take place steps) a ≡ true
  pub above : (a : Lit) × (has_literal clause a ≡ true) × (is_false (take start steps) a ≡ false)
  pub explained : Explains clauses steps clause hints

-- What holds once one literal of the last level is left, the unique implication point: it is false and has no value on
-- the lower levels, the clause's other literals are false there, and the hints explain the clause.
pub record IsAtPoint (clauses : List (List Lit)) (steps : List Step) (start : ℕ) (clause : List Lit) (hints : List ℕ) : Type 0 where
  pub point : Lit
  pub has : has_literal clause point ≡ true
  pub falsified : is_false steps point ≡ true
  pub fresh : value_of (take start steps) point.var ≡ None
  pub others : (a : Lit) → has_literal clause a ≡ true → (lit_eq point a ≡ true) ⊎ (is_false (take start steps) a ≡ true)
  pub explained : Explains clauses steps clause hints

-- what is learned
pub record IsLearned (clauses : List (List Lit)) (steps : List Step) (clause : List Lit) (hints : List ℕ) : Type 0 where
  pub falsified : is_falsified steps clause ≡ true
  pub last_level : is_unit (lower_steps steps) clause ≡ true
  pub hints_end : hints_fault (clause_numbered clauses) (map negation clause) hints ≡ None

-- What holds on the way back to the assumed literals: each literal of the clause is the negation of one, or false by
-- what comes before, and the hints explain the clause.
pub record IsTraced (clauses : List (List Lit)) (steps : List Step) (place : ℕ) (clause : List Lit) (hints : List ℕ) : Type 0 where
  pub sources : (a : Lit) → has_literal clause a ≡ true → (is_assumed steps (negation a) ≡ true) ⊎ (is_false (take place steps) a ≡ true)
  pub explained : Explains clauses steps clause hints

-- the place is marked
abbrev pub is_marked : List Bool → ℕ → Bool
is_marked marks q = slice_index_or marks q false

-- the place is told, and is this one
abbrev pub is_at : Option ℕ → ℕ → Bool
is_at None q = false
is_at (Some place) q = place == q

-- the negations of the marked literals
abbrev pub marked : List Bool → List Lit → List Lit
marked [] lits = []
marked (m ∷ marks) [] = []
marked (m ∷ marks) (a ∷ lits) = if m then negation a ∷ marked marks lits else marked marks lits

-- What contracts see of marks: which places are marked, and from which place on they are counted.
pub record Marked : Type 0 where
  pub marks : List Bool
  pub start : ℕ

-- how many places from one on are marked
abbrev pub count_from : ℕ → List Bool → ℕ
count_from start [] = 0
count_from zero (m ∷ marks) = (if m then 1 else 0) + count_from zero marks
count_from (suc start) (m ∷ marks) = count_from start marks

-- 1 where the place is counted, and 0 where it stands before those that are
abbrev pub counts_at : ℕ → ℕ → ℕ
counts_at zero place = 1
counts_at (suc start) zero = 0
counts_at (suc start) (suc place) = counts_at start place

-- literals, and maybe one behind them
abbrev pub with_last : List Lit → Option Lit → List Lit
with_last lits None = lits
with_last lits (Some a) = lits ++ a ∷ []

-- their reasons, where the one behind them has none
abbrev pub reasons_with : List (Option ℕ) → Option Lit → List (Option ℕ)
reasons_with reasons None = reasons
reasons_with reasons (Some a) = reasons ++ None ∷ []

-- the steps, where the last is assumed
abbrev pub steps_with : List Lit → List (Option ℕ) → Option Lit → List Step
steps_with lits reasons last = steps_from (with_last lits last) (reasons_with reasons last)
