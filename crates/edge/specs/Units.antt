-- Work that is counted, one unit at a time, up to limits: conflicts of a clause-learning solver, steps of a search
-- by frames (IC3: Bradley, 2011).
use Rattle.std.specs.Prelude.{◌≡◌, ◌≢◌, ℕ, ◌-◌, ◌^◌, ◌<◌, ◌≤◌, Bool, true, false, All, List, [], Option, Some, None, nat_lt, if◌then◌else◌}
use Rattle.std.specs.Option.{ForSome}
use Rattle.proof_semantics.specs.Clauses.{IsImplied, clause_value, clauses_value, values_of, has_opposites, is_subsumed}
use Rattle.proof_semantics.specs.declared.literals.Lit.{Lit}

-- what was spent of each kind, and its limit, where it has one
pub record Spendings : Type 0 where
  pub conflicts : ℕ
  pub conflict_limit : Option ℕ
  pub steps : ℕ
  pub step_limit : Option ℕ

-- the limit that a number asks for: 4,294,967,295 and more ask for none
abbrev pub limit_of : ℕ → Option ℕ
limit_of n = if nat_lt n (2 ^ 32 - 1) then Some n else None

-- the count is not above its limit
abbrev pub IsWithin : ℕ → Option ℕ → Type 0
IsWithin count limit = ForSome limit (λ most. count ≤ most)

-- A spent conflict: a clause was learned that the held clauses imply, and that is new beside each of them.
pub record SpentConflict (held : List (List Lit)) (learned : List Lit) : Type 0 where
  pub implied : IsImplied held learned
  pub no_tautology : has_opposites learned ≡ false
  pub not_subsumed : is_subsumed held learned ≡ false

-- A spent step: a lemma excludes a state that its frame allowed.
pub record SpentLemma (frame : List (List Lit)) (lemma : List Lit) (state : List Bool) : Type 0 where
  pub allowed : clauses_value (values_of state) frame ≡ true
  pub excluded : clause_value (values_of state) lemma ≡ false

-- A spent step: a frame is opened above others, each of which has lemmas that the next has not; so many they are.
pub record SpentFrame (deltas : List ℕ) : Type 0 where
  pub not_empty : deltas ≢ []
  pub lemmas : All (λ delta. 0 < delta) deltas
