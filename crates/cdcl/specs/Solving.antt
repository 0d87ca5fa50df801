-- What a solver of clauses answers, and what it learns. After GRASP (Marques-Silva, Sakallah, 1999) and MiniSat (Eén,
-- Sörensson, 2003), with answers under assumptions.
use Rattle.std.specs.Prelude.{◌≡◌, ◌≢◌, ℕ, zero, suc, ◌^◌, ◌≤◌, Bool, true, false, List, [], ◌∷◌, ◌++◌, map, length, Some, IsOkAnd}
use Rattle.edge.specs.Faults.{one_more}
use Rattle.edge.specs.Units.{Spendings}
pub use Rattle.edge.specs.Ends.{IsEnd}
use Rattle.proof_semantics.specs.Clauses.{negation, is_part, clauses_value, cube_value, values_of, IsImplied, is_subsumed, has_opposites}
use Rattle.proof_semantics.specs.Proofs.{start, clause_at, judge_all, Refutes}
use Rattle.proof_semantics.specs.declared.literals.Lit.{Lit}
use Rattle.cdcl.specs.Counting.{IsRefutedAtOnce}
use Rattle.cdcl_log.specs.Variables.{is_over, are_over}
use Rattle.cdcl.specs.declared.solving.Answer.{Answer}
use Rattle.cdcl.specs.declared.solving.Answer.TheVariants.{Sat, Unsat}

-- What contracts see of a solver: the clauses that were added, and those that it learned, in their order, and the
-- literals that were true behind the last question.
pub record Solving : Type 0 where
  pub added : List (List Lit)
  pub learned : List (List Lit)
  pub values : List Lit

-- The assignment makes every clause and each assumption true.
pub record IsModel (added : List (List Lit)) (assumptions : List Lit) (v : ℕ → Bool) : Type 0 where
  pub clauses : clauses_value v added ≡ true
  pub assumed : cube_value v assumptions ≡ true

-- no assignment does
abbrev pub HasNoModel : List (List Lit) → List Lit → Type 0
HasNoModel added assumptions = (v : ℕ → Bool) → IsModel added assumptions v → ⊥

-- The lines are accepted in their order, and the clause with the greatest id, given or added, is held and is this one.
abbrev pub Derives : List (List Lit) → List (List ℕ) → List Lit → Type 0
Derives given lines clause = IsOkAnd (judge_all (start given) lines) (λ s. clause_at s.held s.last ≡ Some clause)

-- The core is a part of the assumptions, and the lines derive the clause of its negated literals from the added clauses.
-- An empty core means that they refute the added clauses.
pub record IsRefusal (added : List (List Lit)) (assumptions core : List Lit) (lines : List (List ℕ)) : Type 0 where
  pub among : is_part core assumptions ≡ true
  pub derived : Derives added lines (map negation core)
  pub refuted : core ≡ [] → Refutes added lines
  pub no_model : HasNoModel added assumptions

-- what an answer says
abbrev pub IsAnswer : List (List Lit) → List Lit → Answer → Type 0
IsAnswer added assumptions (Sat values) = IsModel added assumptions (values_of values.items)
IsAnswer added assumptions (Unsat core lines) = IsRefusal added assumptions core.items lines

-- A learned clause follows from the added ones, has a literal and none beside its negation, and no clause that was added
-- or learned before is a part of it. Unit propagation over the added clauses and those learned before did not refute them
-- already. So the empty clause, which propagation alone gives, is never learned.
pub record IsNewImplicate (added before : List (List Lit)) (clause : List Lit) : Type 0 where
  pub implied : IsImplied added clause
  pub no_tautology : has_opposites clause ≡ false
  pub not_empty : clause ≢ []
  pub new : is_subsumed (added ++ before) clause ≡ false
  pub unrefuted : IsRefutedAtOnce (added ++ before) [] → ⊥

-- each clause after those before it
abbrev pub AreLearned : List (List Lit) → List (List Lit) → List (List Lit) → Type 0
AreLearned added before [] = Unit {0}
AreLearned added before (clause ∷ more) = IsNewImplicate added before clause × AreLearned added (before ++ clause ∷ []) more

-- The later list is the earlier one, and then clauses that were learned one after another.
pub record Learns (added earlier later : List (List Lit)) : Type 0 where
  pub more : List (List Lit)
  pub behind : later ≡ earlier ++ more
  pub learned : AreLearned added earlier more

-- Over variables that are those of the added clauses, of the ones learned before and of the assumptions every learned
-- clause stays, and of all calls there are at most so many: a clause has, of a variable, the literal, its negation or none.
abbrev pub IsBounded : Solving → List Lit → List (List Lit) → Type 0
IsBounded solver assumptions learned =
    (vars : List ℕ) → are_over vars solver.added ≡ true → are_over vars solver.learned ≡ true → is_over vars assumptions ≡ true
    → (are_over vars learned ≡ true) × (length learned ≤ 3 ^ length vars)

-- a count after so many conflicts more
abbrev pub more_conflicts : ℕ → ℕ → ℕ
more_conflicts count zero = count
more_conflicts count (suc n) = one_more (more_conflicts count n)

-- the meter after so many conflicts more
abbrev pub with_conflicts : Spendings → ℕ → Spendings
with_conflicts meter n = record meter { conflicts = more_conflicts meter.conflicts n }
