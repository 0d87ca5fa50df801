-- Unit propagation under a trail. After MiniSat (Eén, Sörensson, 2003).
use Rattle.std.specs.Prelude.{◌≡◌, ℕ, Bool, true, not, ◌&&◌, ◌||◌, List, [], ◌∷◌, ◌++◌, None, Some, is_some, ◌⊎◌}
use Rattle.std.specs.List.{list_any, list_all}
use Rattle.proof_semantics.specs.Clauses.{lit_eq, has_literal}
use Rattle.proof_semantics.specs.declared.literals.Lit.{Lit}
use Rattle.cnf.specs.Clauses.{clause_numbered}
pub use Rattle.packed_literals.specs.ValuesOf.{is_value}
use Rattle.cdcl_trail.specs.Trails.{Step, value_of, up_to_level}

abbrev pub is_true : List Step → Lit → Bool
is_true steps a = is_value (value_of steps a.var) a.positive

abbrev pub is_false : List Step → Lit → Bool
is_false steps a = is_value (value_of steps a.var) (not a.positive)

-- The literal is true on level 0, from which no step is taken back.
abbrev pub is_fixed : List Step → Lit → Bool
is_fixed steps a = is_true (up_to_level 0 steps) a

-- every literal of the clause is false
abbrev pub is_falsified : List Step → List Lit → Bool
is_falsified steps clause = list_all (is_false steps) clause

-- The literal is one of the clause's and has no value, and every other literal of the clause is false.
abbrev pub is_unit_for : List Step → List Lit → Lit → Bool
is_unit_for steps clause a =
    has_literal clause a && (not (is_some (value_of steps a.var)) && list_all (λ b. lit_eq a b || is_false steps b) clause)

abbrev pub is_unit : List Step → List Lit → Bool
is_unit steps clause = list_any (is_unit_for steps clause) clause

-- no clause is unit or false
abbrev pub is_complete : List (List Lit) → List Step → Bool
is_complete clauses steps = list_all (λ clause. not (is_falsified steps clause || is_unit steps clause)) clauses

-- The clause with the number is false.
abbrev pub IsConflict : List (List Lit) → List Step → ℕ → Type 0
IsConflict clauses steps number =
    (clause : List Lit) × (clause_numbered clauses number ≡ Some clause) × (is_falsified steps clause ≡ true)

-- The step's reason is a clause that was unit, and that left the step's literal.
pub record IsForced (clauses : List (List Lit)) (before : List Step) (step : Step) : Type 0 where
  pub number : ℕ
  pub reason : step.reason ≡ Some number
  pub clause : List Lit
  pub held : clause_numbered clauses number ≡ Some clause
  pub left : is_unit_for before clause step.literal ≡ true

-- each step is forced after those before it
abbrev pub AreForced : List (List Lit) → List Step → List Step → Type 0
AreForced clauses before [] = Unit {0}
AreForced clauses before (step ∷ more) = IsForced clauses before step × AreForced clauses (before ++ step ∷ []) more

-- The later steps are the earlier ones, and then forced ones.
pub record Propagates (clauses : List (List Lit)) (earlier later : List Step) : Type 0 where
  pub added : List Step
  pub behind : later ≡ earlier ++ added
  pub reasons : AreForced clauses earlier added

-- The step's literal was assumed, or is forced by a clause.
abbrev pub IsReasoned : List (List Lit) → List Step → Step → Type 0
IsReasoned clauses before step = (step.reason ≡ None) ⊎ IsForced clauses before step

-- each step after those before it
abbrev pub HaveReasons : List (List Lit) → List Step → List Step → Type 0
HaveReasons clauses before [] = Unit {0}
HaveReasons clauses before (step ∷ more) = IsReasoned clauses before step × HaveReasons clauses (before ++ step ∷ []) more

-- Each literal of a trail was assumed, or is forced by a clause after those before it.
abbrev pub IsReasonedTrail : List (List Lit) → List Step → Type 0
IsReasonedTrail clauses steps = HaveReasons clauses [] steps
