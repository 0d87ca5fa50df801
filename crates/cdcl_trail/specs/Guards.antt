-- Two watched literals: where a clause has to be looked at only when one of the two becomes false. After Chaff
-- (Moskewicz, Madigan, Zhao, Zhang, Malik, 2001) and MiniSat (Eén, Sörensson, 2003).
use Rattle.std.specs.Prelude.{◌≡◌, ℕ, ◌<◌, true, false, List, ◌++◌, take, Option, Some, slice_get}
use Rattle.std.specs.List.{list_any}
use Rattle.proof_semantics.specs.Clauses.{lit_eq, has_literal}
use Rattle.proof_semantics.specs.declared.literals.Lit.{Lit}
use Rattle.cdcl_trail.specs.Trails.{Step}
use Rattle.cdcl_trail.specs.Propagation.{is_true, is_false}
use Rattle.cdcl_trail.specs.declared.pairs.Pair.{Pair}

-- The two are different literals of the clause.
pub record IsPairOf (clause : List Lit) (pair : Pair) : Type 0 where
  pub first : has_literal clause pair.first ≡ true
  pub second : has_literal clause pair.second ≡ true
  pub apart : lit_eq pair.first pair.second ≡ false

-- the clause has no two different literals
abbrev pub IsSingle : List Lit → Type 0
IsSingle clause = (a b : Lit) → has_literal clause a ≡ true → has_literal clause b ≡ true → lit_eq a b ≡ true

-- Where one of two literals is false by the first steps, the other is true by all of them.
abbrev pub IsGuarded : List Step → List Step → Lit → Lit → Type 0
IsGuarded first steps a b =
    (is_false first a ≡ true → is_true steps b ≡ true) × (is_false first b ≡ true → is_true steps a ≡ true)

-- each watched pair, by the first n steps
abbrev pub AreGuarded : ℕ → List Step → List (Option Pair) → Type 0
AreGuarded n steps pairs =
    (place : ℕ) (pair : Pair) → slice_get pairs place ≡ Some (Some pair) → IsGuarded (take n steps) steps pair.first pair.second

-- each of the first n clauses without two different literals has a true one
abbrev pub AreSure : ℕ → List Step → List ℕ → List (List Lit) → Type 0
AreSure n steps singles clauses =
    (j place : ℕ) (clause : List Lit) → j < n → slice_get singles j ≡ Some place → slice_get clauses place ≡ Some clause
    → list_any (is_true steps) clause ≡ true

-- Where the pair has the literal, the other one is true.
abbrev pub IsDone : List Step → Lit → Pair → Type 0
IsDone steps a pair =
    (lit_eq pair.first a ≡ true → is_true steps pair.second ≡ true) × (lit_eq pair.second a ≡ true → is_true steps pair.first ≡ true)

abbrev pub AreDone : List Step → Lit → List (Option Pair) → Type 0
AreDone steps a pairs = (place : ℕ) (pair : Pair) → slice_get pairs place ≡ Some (Some pair) → IsDone steps a pair

-- the steps begin with these
abbrev pub IsFront : List Step → List Step → Type 0
IsFront front steps = (rest : List Step) × (steps ≡ front ++ rest)

-- What is guarded over the first of the steps stays so.
abbrev pub KeepsGuards : List Step → List (Option Pair) → List (Option Pair) → Type 0
KeepsGuards steps earlier later =
    (n : ℕ) (front : List Step) → IsFront front steps → AreGuarded n front earlier → AreGuarded n front later
