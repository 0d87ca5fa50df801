-- Scaffolding of inner functions. What a search for values that satisfy clauses finds, and where it stands.
use Rattle.std.specs.Prelude.{◌≡◌, ◌≢◌, ℕ, ◌+◌, ◌<◌, ◌≤◌, Bool, true, false, List, [], ◌∷◌, ◌++◌, Option, None, Some, IfSome, map, slice_get, nat_eq, ◌⊎◌}
use Rattle.std.specs.List.{list_any, list_all}
use Rattle.proof_semantics.specs.Clauses.{negation, literal_value, values_of, has_literal, is_subsumed, has_opposites}
use Rattle.proof_semantics.specs.Propagation.{hints_fault}
use Rattle.proof_semantics.specs.declared.literals.Lit.{Lit}
use Rattle.cdcl_trail.specs.Trails.{Step, value_of, literals_of, level, level_of, up_to_level}
use Rattle.cdcl_trail.specs.Propagation.{is_true, is_false, is_complete, IsConflict, IsReasonedTrail}
use Rattle.cdcl_trail.specs.Watched.{Extends, TrailState}
use Rattle.cdcl_learn.specs.Learning.{is_assumed}
use Rattle.cnf.specs.Clauses.{clause_numbered}
use Rattle.cdcl_learn.specs.declared.learning.Learned.{Learned}
pub use Rattle.cdcl_log.specs.Variables.{is_over, are_over}

-- the variable is that of a literal of the clause
abbrev pub has_variable : List Lit → ℕ → Bool
has_variable clause v = list_any (λ a. nat_eq v a.var) clause

-- A literal whose variable has no value, and stands in a clause.
pub record IsUndecided (clauses : List (List Lit)) (steps : List Step) (a : Lit) : Type 0 where
  pub unvalued : value_of steps a.var ≡ None
  pub place : ℕ
  pub clause : List Lit
  pub at : slice_get clauses place ≡ Some clause
  pub inside : has_variable clause a.var ≡ true

-- A literal of the clause without a value.
pub record IsOpenIn (steps : List Step) (clause : List Lit) (a : Lit) : Type 0 where
  pub unvalued : value_of steps a.var ≡ None
  pub inside : has_literal clause a ≡ true

-- how many of the variables have no value
abbrev pub open_by : Option Bool → ℕ
open_by None = 1
open_by (Some value) = 0

abbrev pub count_open : List ℕ → List Step → ℕ
count_open [] steps = 0
count_open (v ∷ vars) steps = open_by (value_of steps v) + count_open vars steps

-- every clause has a true literal
abbrev pub is_satisfied : List (List Lit) → List Step → Bool
is_satisfied clauses steps = list_all (λ clause. list_any (is_true steps) clause) clauses

-- the hints of the clause's line end in a conflict
abbrev pub IsHinted : List (List Lit) → Learned → Type 0
IsHinted clauses learned = hints_fault (clause_numbered clauses) (map negation learned.clause) learned.hints ≡ None

-- A clause that is learned: new beside each clause, and over variables that are there.
pub record IsNewClause (clauses : List (List Lit)) (lits : List Lit) (learned : Learned) : Type 0 where
  pub hinted : IsHinted clauses learned
  pub not_subsumed : is_subsumed clauses learned.clause ≡ false
  pub no_tautology : has_opposites learned.clause ≡ false
  pub not_empty : learned.clause ≢ []
  pub over : (vars : List ℕ) → are_over vars clauses ≡ true → is_over vars lits ≡ true → is_over vars learned.clause ≡ true

-- each of the literals is true under the values
abbrev pub AreTrue : List Bool → List Lit → Type 0
AreTrue values lits = (a : Lit) → has_literal lits a ≡ true → literal_value (values_of values) a ≡ true

-- the negation of each literal of the clause is one of these
abbrev pub NegatesOnly : List Lit → List Lit → Type 0
NegatesOnly lits clause = (a : Lit) → has_literal clause a ≡ true → has_literal lits (negation a) ≡ true

-- The trail of a solver: it took over a beginning of the clauses, and each of its literals was assumed or is forced by
-- one.
pub record IsHeld (clauses : List (List Lit)) (t : TrailState) : Type 0 where
  pub extends : Extends t.taken clauses
  pub reasoned : IsReasonedTrail clauses t.steps

-- Nothing is assumed, and where a number is told, that clause is false.
pub record IsSettledBase (clauses : List (List Lit)) (steps : List Step) (conflict : Option ℕ) : Type 0 where
  pub flat : level steps ≡ 0
  pub told : IfSome conflict (IsConflict clauses steps)

-- Steps after some of the assumptions were assumed.
pub record AssumesSome (assumptions : List Lit) (start steps : List Step) : Type 0 where
  pub reasoned : (clauses : List (List Lit)) → IsReasonedTrail clauses start → IsReasonedTrail clauses steps
  pub only : (a : Lit) → is_assumed steps a ≡ true → (is_assumed start a ≡ true) ⊎ (has_literal assumptions a ≡ true)
  pub over : (vars : List ℕ) → is_over vars (literals_of start) ≡ true → is_over vars assumptions ≡ true → is_over vars (literals_of steps) ≡ true

-- after all of them were
pub record AssumesAll (assumptions : List Lit) (start steps : List Step) : Type 0 where
  pub some : AssumesSome assumptions start steps
  pub true_all : (a : Lit) → has_literal assumptions a ≡ true → is_true steps a ≡ true

-- the literal is one of the assumptions, and false
abbrev pub IsRefusedAt : List Lit → List Step → Lit → Type 0
IsRefusedAt assumptions steps a = (has_literal assumptions a ≡ true) × (is_false steps a ≡ true)

-- the steps have no variable but those of the clauses and of the assumptions
abbrev pub HasNoOther : List (List Lit) → List Lit → List Step → Type 0
HasNoOther clauses assumptions steps =
    (vars : List ℕ) → are_over vars clauses ≡ true → is_over vars assumptions ≡ true → is_over vars (literals_of steps) ≡ true

-- All that is assumed is among the assumptions, and these are true.
pub record IsOpened (assumptions : List Lit) (steps : List Step) : Type 0 where
  pub only : (a : Lit) → is_assumed steps a ≡ true → has_literal assumptions a ≡ true
  pub true_all : (a : Lit) → has_literal assumptions a ≡ true → is_true steps a ≡ true

-- What stands on the trail while a search decides, learns and goes back: what the assumptions opened and more, each
-- literal with its reason, and from the base on no clause is unit or false on a level below the last.
pub record IsDeciding (clauses : List (List Lit)) (assumptions : List Lit) (base : ℕ) (steps : List Step) : Type 0 where
  pub opened : List Step
  pub assumes : IsOpened assumptions opened
  pub deep : level opened ≡ base
  pub rest : List Step
  pub begun : steps ≡ opened ++ rest
  pub reasoned : IsReasonedTrail clauses steps
  pub below : (k : ℕ) → base ≤ k → k < level steps → is_complete clauses (up_to_level k steps) ≡ true
  pub over : HasNoOther clauses assumptions steps

-- A level to go back to with a learned clause: the base, or one above it and below the last on which a literal of the
-- clause got its value.
pub record IsBackLevel (steps : List Step) (clause : List Lit) (base target : ℕ) : Type 0 where
  pub from_base : base ≤ target
  pub below : target < level steps
  pub reached : (target ≡ base) ⊎ ((a : Lit) × (has_literal clause a ≡ true) × (level_of steps a.var ≡ target))
